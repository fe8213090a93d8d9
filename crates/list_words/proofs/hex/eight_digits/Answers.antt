use Rattle.std.proofs.Common.{◌<◌, ◌^◌, arith}
use Rattle.list_words.proofs.HexPairs.{eight_are}
use Rattle.list_words.proofs.hex.eight_digits.Goals as goal

pub returns : goal.returns
returns c =
    let low : c.args.n < 2 ^ 32 = omega arith in
    eight_are c.args.n _ _ _ _ low c.two_digits.ensures c.two_digits-2.ensures c.two_digits-3.ensures c.two_digits-4.ensures
