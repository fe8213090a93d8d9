-- How many leaves come before each node of an arena, and so the number of the leaf above it.
use Rattle.std.specs.Prelude.{ℕ, List, slice_index_or, Option, Some, None}
use Rattle.mrs_arena.specs.Flat.{FlatNode}
use Rattle.mrs_arena.specs.Nodes.{parents_of}
pub use Rattle.mrs_arena.specs.AliasPaths.{leaves_before, leaf_number}

-- how many leaves come before the parent of node n: where the parent is a leaf, that is its number
abbrev pub leaf_above : List FlatNode → ℕ → ℕ
leaf_above nodes n = leaf_number nodes (slice_index_or (parents_of nodes) n None)

-- the same number, where the counts before each node are kept
abbrev pub counted_above : List ℕ → Option ℕ → ℕ
counted_above before None = 0
counted_above before (Some parent) = slice_index_or before parent 0
