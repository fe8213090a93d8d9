use Rattle.std.proofs.Common.{sym, ap, subst, ℕ, ◌+◌, ◌<◌, length, All, Err, map, arith, length-append}
use Rattle.std.proofs.lemmas.Bool.{ltb-true}
use Rattle.std.proofs.lemmas.List.{length-map}
use Rattle.spec_walk.specs.Limits.{expression_limit}
use Rattle.mrs_arena.specs.Placed.{expr_of}
use Rattle.schema_draft.specs.Drafted.{Drafted, IsHeld}
use Rattle.schema_draft.proofs.draft.Draft.list.Goals as goal

pub list-requires : goal.list-requires
list-requires c =
    let b = c.self.inside.builder in
    let below = subst (λ (d : Drafted). All (λ part. part.0 < length d.exprs) c.args.parts.now) (sym c.self.view_is) c.requires.parts in
    subst (λ (n : ℕ). All (λ part. part.0 < n) c.args.parts.now) (length-map b.exprs (expr_of c.self.inside.names)) below

pub invariant_of-self : goal.invariant_of-self
invariant_of-self c =
    let b = c.self.inside.builder in
    let more = map (λ part. part.0) c.args.parts.now in
    let known = ap (λ d. length d.exprs) c.self.view_is in
    let before = ap (λ d. length d.parts) c.self.view_is in
    subst (IsHeld c.self.inside.names) (sym c.in-Ok.ensures.put)
    (record {
      nodes = c.self.invariant.nodes;
      exprs = c.self.invariant.exprs;
      few = c.self.invariant.few;
      few_parts =
          omega (arith, c.requires.few, known, before, length-map b.exprs (expr_of c.self.inside.names), length-append b.parts more, length-map c.args.parts.now (λ part. part.0));
    })

-- no limit is passed
pub returns-clause-steps : goal.returns-clause-steps
returns-clause-steps c =
    let b = c.self.inside.builder in
    let known = ap (λ d. length d.exprs) c.self.view_is in
    let before = ap (λ d. length d.parts) c.self.view_is in
    let refused = ltb-true expression_limit (length b.parts + length c.args.parts.now) (c.in-Err-TooMany.ensures.too_many (ap Err c.in-Err-TooMany.field-0-is)) in
    absurd (omega (arith, refused, c.requires.few, c.self.invariant.few, known, before, length-map b.exprs (expr_of c.self.inside.names)))
