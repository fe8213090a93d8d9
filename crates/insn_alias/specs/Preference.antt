-- What the condition and the preference of a node say of a word, under the fields that are visible at the node.
use Rattle.std.specs.Prelude.{ℕ, Bool, ◌&&◌, List}
use Rattle.spec_expressions.specs.Scope.{Configuration}
use Rattle.spec_expressions.specs.Value.{truth}
use Rattle.spec_instructions.specs.Fields.{fields}
use Rattle.spec_decode.specs.Preferred.{is_yes, prefers}
use Rattle.mrs_arena.specs.Flat.{FlatNode}
use Rattle.mrs_arena.specs.Placed.{own_at, path_to}

abbrev pub is_condition_yes : List (List ℕ) → List FlatNode → ℕ → Configuration → ℕ → Bool
is_condition_yes names nodes n g w = is_yes (truth (own_at names nodes n).condition g (fields (path_to names nodes n)) w)

abbrev pub is_preference_yes : List (List ℕ) → List FlatNode → ℕ → Configuration → ℕ → Bool
is_preference_yes names nodes n g w = prefers (own_at names nodes n).preferred g (fields (path_to names nodes n)) w

abbrev pub prefers_at : List (List ℕ) → List FlatNode → ℕ → Configuration → ℕ → Bool
prefers_at names nodes n g w = is_condition_yes names nodes n g w && is_preference_yes names nodes n g w
