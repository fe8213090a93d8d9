-- What the fields and the rest that a line tells say of the word.
use Rattle.std.specs.Prelude.{ℕ, ◌^◌, ◌≡◌, ◌<◌, List, [], ◌∷◌}
use Rattle.spec_expressions.specs.Scope.{Configuration}
use Rattle.spec_instructions.specs.Tree.{Own}
use Rattle.spec_instructions.specs.Aliases.{AreBelowLeaves, alias_paths}
use Rattle.spec_decode.specs.Bucket.{AreWithinWord}
use Rattle.spec_decode.specs.Found.{Candidate, found}
use Rattle.spec_decode.specs.Machine.{Machine}
use Rattle.spec_encoding.specs.PathLayout.{rest_of}
use Rattle.spec_encoding.specs.Encoding.{Encodes, own_pairs}
use Rattle.spec_lines.specs.Way.{way_path, way_of}

-- a word's fields and rest along a path encode that word, and no other
pub record TellsWord (path : List Own) (g : Configuration) (w : ℕ) : Type 0 where
  pub encodes : Encodes path g (own_pairs path w) (rest_of path w) w
  pub only : (u : ℕ) → Encodes path g (own_pairs path w) (rest_of path w) u → u ≡ w

-- the items of a machine's paths lie within the word, and its aliases are those of its leaves, in the order of these
pub record IsFormedMachine (machine : Machine) : Type 0 where
  pub paths : AreWithinWord machine.paths
  pub aliases : AreWithinWord (alias_paths machine.aliases)
  pub below : AreBelowLeaves machine.paths machine.aliases

-- the fields and the rest that lines tell of a lone leaf, or of the alias that is preferred at it, encode the word of the line,
-- and no other
abbrev pub LoneFieldsTellWord : Type 0
LoneFieldsTellWord =
    (machine : Machine) (w : ℕ) (c : Candidate) → w < 2 ^ 32 → IsFormedMachine machine → found machine.paths machine.configuration w ≡ c ∷ []
    → TellsWord (way_path machine (way_of machine c.leaf w)) machine.configuration w
