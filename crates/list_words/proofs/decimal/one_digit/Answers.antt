use Rattle.list_words.proofs.Decimals.{decimal_one}
use Rattle.list_words.proofs.decimal.one_digit.Goals as goal

pub returns : goal.returns
returns c = decimal_one c.args.n c.requires
