use Rattle.word_layout.proofs.MaskLaws.{field-bits}
use Rattle.word_layout.proofs.ranges.field_bits.Goals as goal

pub returns : goal.returns
returns c = field-bits c.args.range.start c.args.range.width c.requires
