-- What holds of the nodes of an arena whose tree is that of an accepted document: below what each stands, and the texts of its names.
use Rattle.std.specs.Prelude.{◌≡◌, ◌⊎◌, ℕ, ◌<◌, List, length, drop, true, Option, Some, IfSome, option_map, option_and_then, slice_get, All}
use Rattle.spec_instructions.specs.Name.{is_name}
use Rattle.spec_instructions.specs.Encodeset.{is_field_name}
use Rattle.mrs_arena.specs.declared.kind.Kind.{Kind}
use Rattle.mrs_arena.specs.declared.kind.Kind.TheVariants.{Set, Group, Leaf, Alias}
use Rattle.mrs_arena.specs.Flat.{FlatItem, FlatNode}
use Rattle.mrs_arena.specs.Placed.{text_of}

-- the kind of node n, and that of the node above a node
abbrev pub kind_at : List FlatNode → ℕ → Option Kind
kind_at nodes n = option_map (λ node. node.kind) (slice_get nodes n)

abbrev pub kind_above : List FlatNode → FlatNode → Option Kind
kind_above nodes node = option_and_then (kind_at nodes) node.parent

-- below what a node of a kind stands: a group or a leaf below a set or a group, an alias below a leaf, and a set below none
abbrev pub StandsBelow : Option Kind → Kind → Type 0
StandsBelow above Set = ⊥
StandsBelow above Group = (above ≡ Some Set) ⊎ (above ≡ Some Group)
StandsBelow above Leaf = (above ≡ Some Set) ⊎ (above ≡ Some Group)
StandsBelow above Alias = above ≡ Some Leaf

-- the number of a name, and that of a field's name, which is none of the words `rest` and `sys`
abbrev pub IsNodeName : List (List ℕ) → ℕ → Type 0
IsNodeName names id = (id < length names) × (is_name (text_of names id) ≡ true)

abbrev pub IsFieldName : List (List ℕ) → FlatItem → Type 0
IsFieldName names it = IfSome it.name (λ id. (id < length names) × (is_field_name (text_of names id) ≡ true))

pub record HasNames (names : List (List ℕ)) (node : FlatNode) : Type 0 where
  pub own : IsNodeName names node.name
  pub items : All (IsFieldName names) node.items

-- the first node is a set, every other node stands below one that may have it, and all names are held and are names
pub record IsRelease (names : List (List ℕ)) (nodes : List FlatNode) : Type 0 where
  pub first : kind_at nodes 0 ≡ Some Set
  pub others : All (λ node. StandsBelow (kind_above nodes node) node.kind) (drop 1 nodes)
  pub named : All (HasNames names) nodes
