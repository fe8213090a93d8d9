use Rattle.std.proofs.Common.{◌∙◌}
use Rattle.word_layout.proofs.LayoutLaws.{misfixed-mask}
use Rattle.word_layout.proofs.layout.WordLayout.misfixed_bit.Goals as goal

pub returns : goal.returns
returns c = λ ps h. c.highest_bit.ensures ∙ misfixed-mask ps c.args.given.ones c.args.given.zeros c.args.self.now h
