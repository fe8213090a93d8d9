use Rattle.std.proofs.Common.{◌%◌, arith}
use Rattle.list_words.proofs.HexPairs.{pair_digits}
use Rattle.list_words.proofs.hex.two_digits.Goals as goal

pub returns : goal.returns
returns c = pair_digits (c.args.n % 256) (omega arith)
