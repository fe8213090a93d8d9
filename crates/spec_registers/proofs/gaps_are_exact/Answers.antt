use Rattle.spec_registers.proofs.GapLaws.{gaps_are_gaps}
use Rattle.spec_registers.proofs.gaps_are_exact.Goals as goal

pub returns : goal.returns
returns c = λ bits covered. gaps_are_gaps bits covered
