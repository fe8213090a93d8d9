-- The nodes of an arena as those of a tree that is walked down, by the texts that names are the numbers of.
use Rattle.std.specs.Prelude.{◌≡◌, ℕ, ◌+◌, ◌<◌, Bool, false, List, [], ◌∷◌, ◌++◌, length, map, reverse, filter, slice_get, slice_index_or, All, Option, Some, None, option_map, unwrap_or, IfSome}
use Rattle.std.specs.List.{range_with_len}
use Rattle.spec_bits.specs.Item.{Item}
use Rattle.spec_expressions.specs.Expression.{Expr, ExprOf, with_names, EachName}
use Rattle.spec_instructions.specs.Kind as kind
use Rattle.spec_instructions.specs.Kind.{Kind}
use Rattle.spec_instructions.specs.Tree.{Own, bare, Node, node, Nodes, no_nodes, more}
use Rattle.mrs_arena.specs.declared.kind.Kind as arena
use Rattle.mrs_arena.specs.declared.kind.Kind.TheVariants as variant
use Rattle.mrs_arena.specs.Flat.{FlatItem, FlatNode, with_text}
use Rattle.mrs_arena.specs.Paths.{ancestors}
use Rattle.mrs_arena.specs.Nodes.{parents_of}
use Rattle.mrs_arena.specs.Limits.{is_leaf, is_alias}

-- the text of a name's number
abbrev pub text_of : List (List ℕ) → ℕ → List ℕ
text_of names id = slice_index_or names id []

abbrev pub item_of : List (List ℕ) → FlatItem → Item
item_of names it = with_text (option_map (text_of names) it.name) it

abbrev pub kind_of : arena.Kind → Kind
kind_of variant.Set = kind.Set
kind_of variant.Group = kind.Group
kind_of variant.Leaf = kind.Leaf
kind_of variant.Alias = kind.Alias

-- an expression with the texts of its names
abbrev pub expr_of : List (List ℕ) → ExprOf ℕ → Expr
expr_of names e = with_names (text_of names) e

-- what a node says of itself, with the texts of its names
abbrev pub own_of_flat : List (List ℕ) → FlatNode → Own
own_of_flat names n =
    record {
      kind = kind_of n.kind;
      name = text_of names n.name;
      items = map (item_of names) n.items;
      condition = option_map (expr_of names) n.condition;
      preferred = option_map (expr_of names) n.preferred;
    }

-- a node of a tree, with the number of the node above it
pub record Placed : Type 0 where
  pub parent : Option ℕ
  pub own : Own

abbrev pub placed_node : List (List ℕ) → FlatNode → Placed
placed_node names n = record { parent = n.parent; own = own_of_flat names n }

abbrev mutual
  -- a node and those below it, in the order in which one comes to them going down: the first has number n, and hangs below the parent
  pub preorder : Option ℕ → ℕ → Node → List Placed
  preorder parent n (node own kids) = record { parent = parent; own = own } ∷ preorders (Some n) (n + 1) kids

  pub preorders : Option ℕ → ℕ → Nodes → List Placed
  preorders parent n no_nodes = []
  preorders parent n (more t ts) = preorder parent n t ++ preorders parent (n + length (preorder parent n t)) ts

-- the nodes are those of the tree
abbrev pub IsTree : List (List ℕ) → List FlatNode → Node → Type 0
IsTree names nodes tree = map (placed_node names) nodes ≡ preorder None 0 tree

-- ---- paths to leaves

-- stands where there is no node
abbrev pub no_own : Own
no_own = bare kind.Instance []

abbrev pub own_at : List (List ℕ) → List FlatNode → ℕ → Own
own_at names nodes n = slice_index_or (map (own_of_flat names) nodes) n no_own

-- the nodes from the root down to node n
abbrev pub path_to : List (List ℕ) → List FlatNode → ℕ → List Own
path_to names nodes n = map (own_at names nodes) (reverse (ancestors (parents_of nodes) n))

abbrev pub has_kind : (arena.Kind → Bool) → List FlatNode → ℕ → Bool
has_kind is nodes n = unwrap_or (option_map (λ node. is node.kind) (slice_get nodes n)) false

-- the numbers of the nodes that are leaves, and of those that are aliases, in order: leaf number k is the k-th
abbrev pub leaves_of : List FlatNode → List ℕ
leaves_of nodes = filter (has_kind is_leaf nodes) (range_with_len 0 (length nodes))

abbrev pub aliases_of : List FlatNode → List ℕ
aliases_of nodes = filter (has_kind is_alias nodes) (range_with_len 0 (length nodes))

abbrev pub paths_of : List (List ℕ) → List FlatNode → List (List Own)
paths_of names nodes = map (path_to names nodes) (leaves_of nodes)

-- ---- names that are held

abbrev pub IsHeldItem : List (List ℕ) → FlatItem → Type 0
IsHeldItem names it = IfSome it.name (λ id. id < length names)

-- each name in an expression that may be there is held
abbrev pub IsHeldExpr : List (List ℕ) → Option (ExprOf ℕ) → Type 0
IsHeldExpr names e = IfSome e (EachName (λ id. id < length names))

-- the names of a node, of its items and in its expressions are held
pub record IsHeldNode (names : List (List ℕ)) (n : FlatNode) : Type 0 where
  pub own : n.name < length names
  pub items : All (IsHeldItem names) n.items
  pub condition : IsHeldExpr names n.condition
  pub preferred : IsHeldExpr names n.preferred

-- so is each name in an expression
abbrev pub AreHeldExprs : List (List ℕ) → List (ExprOf ℕ) → Type 0
AreHeldExprs names exprs = All (EachName (λ id. id < length names)) exprs

abbrev pub AreHeld : List (List ℕ) → List FlatNode → Type 0
AreHeld names nodes = All (IsHeldNode names) nodes
