use Rattle.spec_expressions.proofs.DigitLaws.{equal_is_symmetric}
use Rattle.spec_expressions.proofs.equal_is_symmetric.Goals as goal

pub returns : goal.returns
returns c = equal_is_symmetric
