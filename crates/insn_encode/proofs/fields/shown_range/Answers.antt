use Rattle.std.proofs.Common.{◌∙◌, sym}
use Rattle.std.proofs.lemmas.Bool.{not-true}
use Rattle.insn_encode.proofs.ShownLaws.{found-next}
use Rattle.insn_encode.proofs.fields.shown_range.Goals as goal

pub loop-field-preserved-then-ne : goal.loop-field-preserved-then-ne
loop-field-preserved-then-ne c =
    found-next c.args.layout.now c.args.name.0 c.args.fields.now c.loop-field.field-index c.field-item.result _ c.loop-field-test.true c.field-item.is (not-true _ (sym c.ne.ensures ∙ c.if-ne.true)) c.loop-field.invariant
