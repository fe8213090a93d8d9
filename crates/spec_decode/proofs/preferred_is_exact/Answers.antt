use Rattle.spec_decode.proofs.PreferredLaws.{preferred_is_exact, preferred_has_leaf_verdict}
use Rattle.spec_decode.proofs.preferred_is_exact.Goals as goal

pub returns-clause-exact : goal.returns-clause-exact
returns-clause-exact c = preferred_is_exact

pub returns-clause-verdict : goal.returns-clause-verdict
returns-clause-verdict c = preferred_has_leaf_verdict
