use Rattle.spec_encoding.proofs.ExclusionLaws.{exclusion_is_exact}
use Rattle.spec_encoding.proofs.exclusion_is_exact.Goals as goal

pub returns : goal.returns
returns c = exclusion_is_exact
