use Rattle.std.proofs.Common.{◌∙◌}
use Rattle.word_layout.proofs.LayoutLaws.{clash-mask}
use Rattle.word_layout.proofs.given.Given.clash_bit.Goals as goal

pub returns : goal.returns
returns c = λ ps h. c.highest_bit.ensures ∙ clash-mask ps c.args.self.now.ones c.args.self.now.zeros h
