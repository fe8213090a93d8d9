use Rattle.spec_expressions.proofs.LimitLaws.{names_are_limited}
use Rattle.spec_expressions.proofs.names_are_limited.Goals as goal

pub returns : goal.returns
returns c = names_are_limited
