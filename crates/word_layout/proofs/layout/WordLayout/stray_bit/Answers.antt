use Rattle.std.proofs.Common.{◌∙◌}
use Rattle.word_layout.proofs.LayoutLaws.{stray-mask}
use Rattle.word_layout.proofs.layout.WordLayout.stray_bit.Goals as goal

pub returns : goal.returns
returns c = c.highest_bit.ensures ∙ stray-mask c.args.self.now c.args.rest
