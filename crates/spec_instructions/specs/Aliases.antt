-- The aliases of a set of instructions, each behind the path to its leaf, and their labels.
use Rattle.std.specs.Prelude.{◌≡◌, ◌≤◌, ℕ, ◌+◌, List, [], ◌∷◌, ◌++◌, length, map, filter, slice_get, Option, Some, Bool, true, false, All, AllPairs}
use Rattle.spec_walk.specs.Limits.{alias_limit}
use Rattle.spec_instructions.specs.Kind.{Kind, Set, Group, Leaf, Alias, Instance}
use Rattle.spec_instructions.specs.Tree.{Own, Node, node, Nodes, no_nodes, more}
use Rattle.spec_instructions.specs.Shape.{IsSetTree}
use Rattle.spec_instructions.specs.Paths.{paths_from, label, labelled_path, AreTold}

-- an alias: the number of its leaf, the path to that leaf, and what the alias says of itself
pub record AliasPath : Type 0 where
  pub leaf : ℕ
  pub above : List Own
  pub own : Own

-- its path: that to its leaf, with the alias behind it
abbrev pub alias_path : AliasPath → List Own
alias_path a = a.above ++ a.own ∷ []

abbrev pub alias_paths : List AliasPath → List (List Own)
alias_paths aliases = map alias_path aliases

-- ---- the aliases below a node

-- a child of a leaf that is an alias, before those after it; an instance of the leaf is none
abbrev pub with_alias : Kind → AliasPath → List AliasPath → List AliasPath
with_alias Alias a after = a ∷ after
with_alias Set a after = after
with_alias Group a after = after
with_alias Leaf a after = after
with_alias Instance a after = after

-- the aliases among the children of leaf k, in order
abbrev pub leaf_aliases : ℕ → List Own → Nodes → List AliasPath
leaf_aliases k path no_nodes = []
leaf_aliases k path (more (node own kids) ns) = with_alias own.kind (record { leaf = k; above = path; own = own }) (leaf_aliases k path ns)

-- those of a leaf are its own; what hangs below a set or a group is followed on
abbrev pub aliases_at : Kind → List AliasPath → List AliasPath → List AliasPath
aliases_at Leaf own below = own
aliases_at Set own below = below
aliases_at Group own below = below
aliases_at Alias own below = []
aliases_at Instance own below = []

abbrev mutual
  -- the aliases of the leaves below a node, in document order, behind the nodes above it; the first of these leaves has number k
  pub aliases_from : List Own → ℕ → Node → List AliasPath
  aliases_from above k (node own kids) = aliases_at own.kind (leaf_aliases k (above ++ own ∷ []) kids) (aliases_among (above ++ own ∷ []) k kids)

  pub aliases_among : List Own → ℕ → Nodes → List AliasPath
  aliases_among above k no_nodes = []
  aliases_among above k (more n ns) = aliases_from above k n ++ aliases_among above (k + length (paths_from above n)) ns

-- the aliases of a set, alias number a being the a-th, from 0
abbrev pub aliases_in : Node → List AliasPath
aliases_in set = aliases_from [] 0 set

-- ---- labels: as those of leaves, among aliases

abbrev pub alias_label : List AliasPath → ℕ → List ℕ
alias_label aliases a = label (alias_paths aliases) a

-- the number of the first alias with that label
abbrev pub labelled_alias : List AliasPath → List ℕ → Option ℕ
labelled_alias aliases text = labelled_path (alias_paths aliases) text

-- ---- what this comes to

-- an alias is one of a leaf of these paths, by the leaf's number and path
pub record IsBelowLeaf (paths : List (List Own)) (a : AliasPath) : Type 0 where
  pub at : slice_get paths a.leaf ≡ Some a.above
  pub is_alias : a.own.kind ≡ Alias

-- each alias is one of a leaf, and the aliases stand in the order of their leaves
pub record AreBelowLeaves (paths : List (List Own)) (aliases : List AliasPath) : Type 0 where
  pub each : All (IsBelowLeaf paths) aliases
  pub order : AllPairs (λ first second. first.leaf ≤ second.leaf) aliases

abbrev pub AliasesAreBelowLeaves : Type 0
AliasesAreBelowLeaves = (set : Node) → AreBelowLeaves (paths_from [] set) (aliases_in set)

abbrev mutual
  -- what each node of a tree says of itself, in document order
  pub owns_of : Node → List Own
  owns_of (node own kids) = own ∷ owns_among kids

  pub owns_among : Nodes → List Own
  owns_among no_nodes = []
  owns_among (more n ns) = owns_of n ++ owns_among ns

abbrev pub is_alias : Kind → Bool
is_alias Set = false
is_alias Group = false
is_alias Leaf = false
is_alias Alias = true
is_alias Instance = false

-- in the tree of a document without faults each alias is one of a leaf's: the aliases are all nodes of that kind, once, in document order
abbrev pub AliasesAreAll : Type 0
AliasesAreAll = (set : Node) → IsSetTree set → map (λ a. a.own) (aliases_in set) ≡ filter (λ own. is_alias own.kind) (owns_of set)

-- no two aliases have one label, and each is found by its own, where there are no more of them than there may be
abbrev pub LabelsTellAliases : Type 0
LabelsTellAliases = (set : Node) → IsSetTree set → length (aliases_in set) ≤ alias_limit → AreTold (alias_paths (aliases_in set))
