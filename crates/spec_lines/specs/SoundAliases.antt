-- What holds of the aliases of every document that is accepted.
use Rattle.std.specs.Prelude.{◌≡◌, ◌≤◌, ℕ, List, [], length, All, Ok}
use Rattle.serde_json.specs.Data.{Data}
use Rattle.spec_walk.specs.Limits.{Counts, alias_limit}
use Rattle.spec_instructions.specs.Tree.{Own, Node}
use Rattle.spec_instructions.specs.Paths.{paths_from}
use Rattle.spec_instructions.specs.Aliases.{AliasPath, alias_paths, aliases_in, AreBelowLeaves}
use Rattle.spec_instructions.specs.SoundPaths.{IsSoundPath}
use Rattle.spec_instructions.specs.Reading.{tree_read}

-- the path of each is sound, there are no more of them than there may be, and each is one of a leaf's
pub record AreSoundAliases (paths : List (List Own)) (aliases : List AliasPath) : Type 0 where
  pub few : length aliases ≤ alias_limit
  pub each : All IsSoundPath (alias_paths aliases)
  pub below : AreBelowLeaves paths aliases

abbrev pub AliasesAreSound : Type 0
AliasesAreSound = (isa : List ℕ) (held : List (List ℕ)) (d : Data) (tree : Node) (counts : Counts) → tree_read isa held d ≡ Ok (tree, counts) → AreSoundAliases (paths_from [] tree) (aliases_in tree)
