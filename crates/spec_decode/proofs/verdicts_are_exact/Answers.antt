use Rattle.spec_decode.proofs.VerdictLaws.{verdicts_are_exact}
use Rattle.spec_decode.proofs.verdicts_are_exact.Goals as goal

pub returns : goal.returns
returns c = verdicts_are_exact
