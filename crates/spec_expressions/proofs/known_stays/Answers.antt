use Rattle.spec_expressions.proofs.StayLaws.{known_stays}
use Rattle.spec_expressions.proofs.FillLaws.{rests_on_no_other}
use Rattle.spec_expressions.proofs.known_stays.Goals as goal

pub returns-clause-parameters : goal.returns-clause-parameters
returns-clause-parameters c = known_stays

pub returns-clause-others : goal.returns-clause-others
returns-clause-others c = rests_on_no_other
