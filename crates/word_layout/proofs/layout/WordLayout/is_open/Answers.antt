use Rattle.word_layout.proofs.OpenLaws.{open-test}
use Rattle.word_layout.proofs.layout.WordLayout.is_open.Goals as goal

pub returns : goal.returns
returns c = open-test c.args.self.now.mask c.args.self.now.value c.args.range.start c.args.range.width c.field_bits.result c.args.self.now.mask_fits c.requires c.field_bits.ensures
