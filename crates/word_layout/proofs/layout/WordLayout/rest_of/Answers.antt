use Rattle.word_layout.proofs.LayoutLaws.{rest-mask}
use Rattle.word_layout.proofs.layout.WordLayout.rest_of.Goals as goal

pub returns : goal.returns
returns c = rest-mask c.args.self.now c.args.w
