use Rattle.spec_decode.proofs.FoundLaws.{found_is_exact}
use Rattle.spec_decode.proofs.found_is_exact.Goals as goal

pub returns : goal.returns
returns c = found_is_exact
