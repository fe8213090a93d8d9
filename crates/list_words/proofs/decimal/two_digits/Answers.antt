use Rattle.list_words.proofs.Decimals.{decimal_two}
use Rattle.list_words.proofs.decimal.two_digits.Goals as goal

pub returns : goal.returns
returns c = decimal_two c.args.n c.requires.least c.requires.most
