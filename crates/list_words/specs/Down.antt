-- The names along a path of an arena.
use Rattle.std.specs.Prelude.{ℕ, List, ◌∷◌, flat_map}
use Rattle.mrs_arena.specs.Flat.{FlatNode}
use Rattle.mrs_arena.specs.Placed.{path_to}

-- the names of the nodes from the root down to node n, a space before each
abbrev pub names_down : List (List ℕ) → List FlatNode → ℕ → List ℕ
names_down names nodes n = flat_map (λ own. 32 ∷ own.name) (path_to names nodes n)
