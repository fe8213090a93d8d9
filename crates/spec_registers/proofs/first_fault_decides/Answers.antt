use Rattle.std.proofs.Common.{◌∙◌, sym, ap, Ok}
use Rattle.spec_walk.specs.Spot.{root}
use Rattle.spec_walk.specs.Limits.{from_held, ◌>>=◌}
use Rattle.spec_walk.proofs.WalkLaws.{judged-gives}
use Rattle.spec_walk.proofs.FirstFaultLaws.{answers-gives}
use Rattle.spec_registers.specs.Walk.{registers}
use Rattle.spec_registers.proofs.first_fault_decides.Goals as goal

pub returns : goal.returns
returns c = λ held d. judged-gives (registers (root d)) (from_held held) ∙ ap (λ r. r >>= λ read. Ok read.1) (sym (answers-gives (registers (root d)) (from_held held)))
