use Rattle.std.proofs.Common.{◌-◌, length, sym, ap, ◌∙◌, refl, arith, Some}
use Rattle.std.specs.Prelude.{slice_get, option_map}
use Rattle.std.proofs.lemmas.Option.{slice_get-map, slice_get_read, slice_get_past}
use Rattle.std.proofs.lemmas.List.{length-map}
use Rattle.spec_refutation.specs.Derivation.{Step}
use Rattle.feat_proof.proofs.Numbering.{numbered_at, slice_get-append_right}
use Rattle.feat_proof.proofs.known.Known.clause.Goals as goal

-- the number is a step's
pub returns-then-place-self : goal.returns-then-place-self
returns-then-place-self c =
    let own = c.self.inside.clauses.now in
    let p = c.in_ok-place.place in
    let r = c.index-self-place-then-place-self in
    ap Some (c.literals-then-place-self.ensures ∙ ap (λ (s : Step). s.0) (sym r.is))
    ∙ sym (numbered_at c.args.self.now c.args.number p (c.in_ok-place.ensures.0) (c.in_ok-place.ensures.1)
    ∙ ap (λ k. slice_get k p) (sym c.self.view_is)
    ∙ slice_get-append_right own _ p c.if-place-own.false
    ∙ slice_get-map (λ (s : Step). s.0) c.self.inside.steps.now (p - length own)
    ∙ ap (option_map (λ (s : Step). s.0)) (slice_get_read c.self.inside.steps.now _ (p - length own) r.result refl c.if-place-self.true r.is))

-- it is above the last step's
pub returns : goal.returns
returns c =
    let own = c.self.inside.clauses.now in
    let p = c.in_ok-place.place in
    sym (numbered_at c.args.self.now c.args.number p (c.in_ok-place.ensures.0) (c.in_ok-place.ensures.1)
    ∙ ap (λ k. slice_get k p) (sym c.self.view_is)
    ∙ slice_get-append_right own _ p c.if-place-own.false
    ∙ slice_get_past _ (p - length own) (simp length-map (omega arith)))
