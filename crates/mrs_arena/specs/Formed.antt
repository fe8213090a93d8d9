-- What holds of all nodes that a builder takes.
use Rattle.std.specs.Prelude.{◌≡◌, ◌≢◌, ℕ, ◌+◌, ◌≤◌, ◌<◌, Bool, true, not, ◌&&◌, ◌||◌, List, [], ◌∷◌, length, All, AllPairs, Some, is_some}
use Rattle.spec_bits.specs.Pattern.{Digit, digit_value}
use Rattle.spec_walk.specs.Limits.{node_limit, leaf_limit, alias_limit}
use Rattle.spec_instructions.specs.Limits.{item_limit, named_limit}
use Rattle.mrs_arena.specs.Flat.{FlatItem, FlatNode}
use Rattle.mrs_arena.specs.Paths.{IsPreorder}
use Rattle.mrs_arena.specs.Nodes.{parents_of, named_on}
use Rattle.mrs_arena.specs.Limits.{leaf_count, alias_count}

-- only digits `0` and `1` are marked
abbrev pub are_binary_where_marked : List Digit → List Bool → Bool
are_binary_where_marked [] marks = true
are_binary_where_marked (d ∷ ds) [] = true
are_binary_where_marked (d ∷ ds) (mark ∷ marks) = (not mark || is_some (digit_value d)) && are_binary_where_marked ds marks

-- an item has digits, within the word, and a mark for each
pub record IsItem (it : FlatItem) : Type 0 where
  pub some : 1 ≤ length it.digits
  pub fits : it.start + length it.digits ≤ 32
  pub marks : length it.marks ≡ length it.digits
  pub binary : are_binary_where_marked it.digits it.marks ≡ true

-- the names of two items differ
abbrev pub HaveOwnNames : FlatItem → FlatItem → Type 0
HaveOwnNames first second = (name : ℕ) → first.name ≡ Some name → second.name ≢ Some name

-- the items of one node
pub record AreItems (items : List FlatItem) : Type 0 where
  pub few : length items ≤ item_limit
  pub each : All IsItem items
  pub apart : AllPairs HaveOwnNames items

-- the nodes
pub record AreNodes (nodes : List FlatNode) : Type 0 where
  pub few : length nodes ≤ node_limit
  pub few_leaves : leaf_count nodes ≤ leaf_limit
  pub few_aliases : alias_count nodes ≤ alias_limit
  pub preorder : IsPreorder (parents_of nodes)
  pub items : All (λ node. AreItems node.items) nodes
  pub few_named : (n : ℕ) → n < length nodes → named_on nodes n ≤ named_limit
