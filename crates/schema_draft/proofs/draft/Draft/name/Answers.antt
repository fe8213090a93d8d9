use Rattle.std.proofs.Common.{◌∙◌, sym, ap, Ok, Err}
use Rattle.spec_walk.specs.Event.{TooMany}
use Rattle.mrs_names.proofs.PlaceLaws.{place_of-lt}
use Rattle.mrs_arena.proofs.HeldLaws.{placed-extended, exprs-extended}
use Rattle.schema_draft.specs.Drafted.{drafted, counts}
use Rattle.spec_walk.specs.Spot.{named}
use Rattle.spec_walk.specs.Walk.{gives}
use Rattle.mrs_walk.specs.Here.{spot_of}
use Rattle.mrs_walk.proofs.AnswerLaws.{Fails-made}
use Rattle.schema_draft.proofs.TakenLaws.{more_names, drafted-extended, IsHeld-extended, name_taken, name_refused, text_of-place}
use Rattle.schema_draft.proofs.draft.Draft.name.Goals as goal

pub returns-in-Ok-clause-steps : goal.returns-in-Ok-clause-steps
returns-in-Ok-clause-steps c =
    let here = spot_of c.args.here.now in
    let text = c.args.text.now in
    let old = c.self.inside.names in
    let new = c.intern.new.self in
    let built = c.self.inside.builder in
    let place = c.in-Ok.ensures.place in record {
      value = text;
      walked =
          ap (λ d. gives (named here text) (counts d)) (sym c.self.view_is)
          ∙ name_taken here text (drafted old built) c.in-Ok.ensures.room
          ∙ ap (λ names. Ok (text, counts (more_names (drafted old built) names))) (sym c.in-Ok.ensures.names)
          ∙ ap (λ d. Ok (text, counts d)) (sym (drafted-extended old new built c.in-Ok.ensures.kept c.self.invariant));
      stands = (place_of-lt text new c.in-Ok.id.0 place, text_of-place text new c.in-Ok.id.0 place);
    }

pub returns-in-Ok-clause-nodes : goal.returns-in-Ok-clause-nodes
returns-in-Ok-clause-nodes c = placed-extended c.self.inside.names c.intern.new.self c.self.inside.builder.nodes c.in-Ok.ensures.kept c.self.invariant.nodes ∙ ap (λ d. d.nodes) c.self.view_is

pub returns-in-Ok-clause-exprs : goal.returns-in-Ok-clause-exprs
returns-in-Ok-clause-exprs c = exprs-extended c.self.inside.names c.intern.new.self c.self.inside.builder.exprs c.in-Ok.ensures.kept c.self.invariant.exprs ∙ ap (λ d. d.exprs) c.self.view_is

pub returns-clause-steps : goal.returns-clause-steps
returns-clause-steps c =
    let here = spot_of c.args.here.now in
    let text = c.args.text.now in
    let names = c.self.inside.names in
    Fails-made c.fault.result here TooMany _ c.fault.ensures (
    ap (λ d. gives (named here text) (counts d)) (sym c.self.view_is)
    ∙ name_refused here text (drafted names c.self.inside.builder) (c.in-Err-Full.ensures.full (ap Err c.in-Err-Full.field-0-is))
    )

pub invariant_of-self : goal.invariant_of-self
invariant_of-self c = IsHeld-extended c.self.inside.names c.intern.new.self c.self.inside.builder c.intern.ensures.kept c.self.invariant
