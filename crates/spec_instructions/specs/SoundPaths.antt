-- What holds of the paths to the leaves of every document that is accepted.
use Rattle.std.specs.Prelude.{◌≡◌, ◌≤◌, ℕ, List, length, true, All, Ok}
use Rattle.serde_json.specs.Data.{Data}
use Rattle.spec_walk.specs.Limits.{leaf_limit}
use Rattle.spec_instructions.specs.Limits.{named_limit}
use Rattle.spec_instructions.specs.Name.{is_name}
use Rattle.spec_instructions.specs.Encodeset.{named_in}
use Rattle.spec_instructions.specs.Tree.{Own}
use Rattle.spec_instructions.specs.Shape.{IsSoundItem}
use Rattle.spec_instructions.specs.Paths.{path_name, path_items}
use Rattle.spec_instructions.specs.Reading.{paths_read}

-- a path's name is a name, its items are sound, and no more of them have a name than may
pub record IsSoundPath (path : List Own) : Type 0 where
  pub name : is_name (path_name path) ≡ true
  pub items : All IsSoundItem (path_items path)
  pub few : named_in (path_items path) ≤ named_limit

-- so it is with each path, and there are no more of them than of leaves there may be
pub record AreSoundPaths (paths : List (List Own)) : Type 0 where
  pub few : length paths ≤ leaf_limit
  pub each : All IsSoundPath paths

abbrev pub PathsAreSound : Type 0
PathsAreSound = (isa : List ℕ) (held : List (List ℕ)) (d : Data) (paths : List (List Own)) → paths_read isa held d ≡ Ok paths → AreSoundPaths paths
