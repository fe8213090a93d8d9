use Rattle.spec_expressions.proofs.TruthLaws.{are_kleene}
use Rattle.spec_expressions.proofs.truths_are_kleene.Goals as goal

pub returns : goal.returns
returns c = are_kleene
