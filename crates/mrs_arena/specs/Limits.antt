-- The limits on nodes and items.
use Rattle.std.specs.Prelude.{ℕ, ◌-◌, Bool, true, false, ◌&&◌, ◌||◌, nat_le, List, length, count_by, is_some}
use Rattle.spec_walk.specs.Limits.{node_limit, leaf_limit, alias_limit}
use Rattle.spec_instructions.specs.Limits.{item_limit, named_limit}
use Rattle.mrs_arena.specs.declared.kind.Kind.{Kind}
use Rattle.mrs_arena.specs.declared.kind.Kind.TheVariants.{Set, Group, Leaf, Alias}
use Rattle.mrs_arena.specs.Flat.{FlatItem, FlatNode}
use Rattle.mrs_arena.specs.Nodes.{last_items, named_on}

abbrev pub is_leaf : Kind → Bool
is_leaf Set = false
is_leaf Group = false
is_leaf Leaf = true
is_leaf Alias = false

abbrev pub is_alias : Kind → Bool
is_alias Set = false
is_alias Group = false
is_alias Leaf = false
is_alias Alias = true

abbrev pub leaf_count : List FlatNode → ℕ
leaf_count nodes = count_by (λ node. is_leaf node.kind) nodes

abbrev pub alias_count : List FlatNode → ℕ
alias_count nodes = count_by (λ node. is_alias node.kind) nodes

-- there are as many leaves, or aliases, as there may be
abbrev pub is_kind_full : Kind → ℕ → ℕ → Bool
is_kind_full Set leaves aliases = false
is_kind_full Group leaves aliases = false
is_kind_full Leaf leaves aliases = nat_le leaf_limit leaves
is_kind_full Alias leaves aliases = nat_le alias_limit aliases

-- a node is refused exactly where there are as many nodes as there may be, or it is a leaf or an alias and there are as many of these
abbrev pub is_node_refused : List FlatNode → Kind → Bool
is_node_refused nodes kind = nat_le node_limit (length nodes) || is_kind_full kind (leaf_count nodes) (alias_count nodes)

-- an item is refused exactly where the last node has as many items as it may have, or the item is named and that node's path has as many named ones
abbrev pub is_item_refused : List FlatNode → FlatItem → Bool
is_item_refused nodes it = nat_le item_limit (length (last_items nodes)) || (is_some it.name && nat_le named_limit (named_on nodes (length nodes - 1)))
