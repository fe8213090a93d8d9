use Rattle.word_layout.proofs.MaskLaws.{ones-with, zeros-with}
use Rattle.word_layout.proofs.given.Given.with.Goals as goal

pub returns-clause-ones : goal.returns-clause-ones
returns-clause-ones c = ones-with c.args.range.start c.args.range.width c.args.value c.requires.fits c.requires.within c.args.self.ones

pub returns-clause-zeros : goal.returns-clause-zeros
returns-clause-zeros c = zeros-with c.args.range.start c.args.range.width c.args.value c.requires.fits c.requires.within c.args.self.zeros c.field_bits.result c.field_bits.ensures
