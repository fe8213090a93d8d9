use Rattle.spec_walk.specs.Spot.{root}
use Rattle.spec_walk.specs.Limits.{from_held}
use Rattle.std.proofs.Common.{◌∙◌, sym, ap, Ok}
use Rattle.spec_walk.specs.Limits.{◌>>=◌}
use Rattle.spec_walk.proofs.WalkLaws.{judged-gives}
use Rattle.spec_walk.proofs.FirstFaultLaws.{answers-gives}
use Rattle.spec_features.specs.Walk.{features}
use Rattle.spec_features.proofs.first_fault_decides.Goals as goal

pub returns : goal.returns
returns c = λ held d. judged-gives (features (root d)) (from_held held) ∙ ap (λ r. r >>= λ read. Ok read.1) (sym (answers-gives (features (root d)) (from_held held)))
