-- The first node on the path to a node that excludes a word, by its number.
use Rattle.std.specs.Prelude.{ℕ, Bool, not, ◌||◌, List, Option, option_map}
use Rattle.std.specs.List.{list_all}
use Rattle.spec_bits.specs.Item.{item_holds}
use Rattle.spec_expressions.specs.Scope.{Configuration}
use Rattle.spec_expressions.specs.Value.{truth}
use Rattle.spec_instructions.specs.Fields.{fields}
use Rattle.spec_encoding.specs.PathLayout.{is_no, excluded_at}
use Rattle.mrs_arena.specs.Flat.{FlatNode}
use Rattle.mrs_arena.specs.Placed.{own_at, path_to}
use Rattle.insn_encode.specs.Held.{node_at}

-- node n excludes a word: an item of it does not hold, or its condition is No under the fields that are visible at it
abbrev pub excludes : List (List ℕ) → List FlatNode → ℕ → Configuration → ℕ → Bool
excludes names nodes n g w = not (list_all (λ it. item_holds it w) (own_at names nodes n).items) || is_no (truth (own_at names nodes n).condition g (fields (path_to names nodes n)) w)

abbrev pub first_excluding : List (List ℕ) → List FlatNode → ℕ → Configuration → ℕ → Option ℕ
first_excluding names nodes n g w = option_map (node_at nodes n) (excluded_at (path_to names nodes n) g w)
