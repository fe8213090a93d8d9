-- What a Features document gives: parameters and constraints, or its first fault.
use Rattle.std.specs.Prelude.{ℕ, List, Result}
use Rattle.serde_json.specs.Data.{Data}
use Rattle.spec_walk.specs.Event.{Fault}
use Rattle.spec_walk.specs.Limits.{Counts, from_held}
use Rattle.spec_walk.specs.FirstFault.{answers}
use Rattle.spec_walk.specs.Spot.{root}
use Rattle.spec_features.specs.Features.{Features}
use Rattle.spec_features.specs.Walk.{features}

-- with the counts behind the walk; `held` are the texts that have a number before it
abbrev pub features_read : List (List ℕ) → Data → Result (Features × Counts) Fault
features_read held d = answers (features (root d)) (from_held held)
