use Rattle.spec_walk.specs.Spot.{root}
use Rattle.spec_walk.specs.Limits.{from_held}
use Rattle.std.proofs.Common.{◌∙◌, sym, ap, Ok}
use Rattle.spec_walk.specs.Limits.{◌>>=◌}
use Rattle.spec_walk.proofs.WalkLaws.{judged-gives}
use Rattle.spec_walk.proofs.FirstFaultLaws.{answers-gives}
use Rattle.spec_instructions.specs.Walk.{instructions}
use Rattle.spec_instructions.proofs.laws.first_fault_decides.Goals as goal

pub returns : goal.returns
returns c = λ isa held d. judged-gives (instructions isa (root d)) (from_held held) ∙ ap (λ r. r >>= λ read. Ok read.1) (sym (answers-gives (instructions isa (root d)) (from_held held)))
