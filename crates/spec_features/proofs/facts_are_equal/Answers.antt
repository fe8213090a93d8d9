use Rattle.spec_features.proofs.FactLaws as facts
use Rattle.spec_features.proofs.facts_are_equal.Goals as goal

pub returns : goal.returns
returns c = facts.facts_are_equal
