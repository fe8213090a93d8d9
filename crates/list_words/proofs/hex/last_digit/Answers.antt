use Rattle.std.proofs.Common.{◌%◌, arith}
use Rattle.list_words.proofs.HexSteps.{digit_in_place}
use Rattle.list_words.proofs.hex.last_digit.Goals as goal

pub returns : goal.returns
returns c = digit_in_place (c.args.n % 16) (omega arith)
