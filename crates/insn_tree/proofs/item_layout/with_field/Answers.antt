use Rattle.std.proofs.Common.{◌∙◌, ap, ◌||◌}
use Rattle.word_layout.specs.Masks.{has_bit}
use Rattle.word_layout.proofs.MaskLaws.{or-test}
use Rattle.insn_tree.proofs.item_layout.with_field.Goals as goal

pub returns : goal.returns
returns c = λ i below. or-test c.args.bits c.field_bits.result i ∙ ap (λ b. has_bit c.args.bits i || b) (c.field_bits.ensures i below)
