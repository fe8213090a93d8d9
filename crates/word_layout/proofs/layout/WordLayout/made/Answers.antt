use Rattle.std.proofs.Common.{bit_and, bit_or, bit_xor, ◌<◌, ◌^◌, arith}
use Rattle.word_layout.proofs.LayoutLaws.{made-word, word-lt}
use Rattle.word_layout.proofs.layout.WordLayout.made.Goals as goal

pub returns : goal.returns
returns c = λ ps h.
    let ones_fit : c.args.given.ones < 2 ^ 32 = omega arith in
    let zeros_fit : c.args.given.zeros < 2 ^ 32 = omega arith in
    made-word ps c.args.given.ones c.args.given.zeros c.args.self.now c.args.rest h zeros_fit (word-lt c.args.given.ones c.args.given.zeros (bit_or c.args.self.now.value (bit_and c.args.self.now.free (bit_xor c.args.self.now.default c.args.rest))) ones_fit)
