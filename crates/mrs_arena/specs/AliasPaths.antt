-- The aliases of an arena as those of a set, by the texts that names are the numbers of.
use Rattle.std.specs.Prelude.{ℕ, List, [], length, map, filter, slice_index_or, Option, Some, None}
use Rattle.std.specs.List.{range_with_len}
use Rattle.spec_instructions.specs.Tree.{Own}
use Rattle.spec_instructions.specs.Aliases.{AliasPath}
use Rattle.mrs_arena.specs.Flat.{FlatNode}
use Rattle.mrs_arena.specs.Nodes.{parents_of}
use Rattle.mrs_arena.specs.Limits.{is_leaf}
use Rattle.mrs_arena.specs.Placed.{own_at, path_to, has_kind, aliases_of}

-- how many leaves come before node n, which is its number if it is a leaf
abbrev pub leaves_before : List FlatNode → ℕ → ℕ
leaves_before nodes n = length (filter (has_kind is_leaf nodes) (range_with_len 0 n))

-- that number of a node that may be there, and the nodes down to it
abbrev pub leaf_number : List FlatNode → Option ℕ → ℕ
leaf_number nodes None = 0
leaf_number nodes (Some n) = leaves_before nodes n

abbrev pub path_above : List (List ℕ) → List FlatNode → Option ℕ → List Own
path_above names nodes None = []
path_above names nodes (Some n) = path_to names nodes n

-- node n as an alias: the number of the leaf above it, the nodes down to that, and what it says of itself
abbrev pub alias_by : List (List ℕ) → List FlatNode → ℕ → AliasPath
alias_by names nodes n = record { leaf = leaf_number nodes (slice_index_or (parents_of nodes) n None); above = path_above names nodes (slice_index_or (parents_of nodes) n None); own = own_at names nodes n }

-- all nodes that are aliases, in order
abbrev pub aliases_by : List (List ℕ) → List FlatNode → List AliasPath
aliases_by names nodes = map (alias_by names nodes) (aliases_of nodes)
