-- The items along a path by the texts of names.
use Rattle.std.proofs.Common.{◌≡◌, ◌∙◌, refl, sym, ap, ℕ, zero, suc, List, [], ◌∷◌, ◌++◌, map, reverse, All, slice_get, Some, append-nil}
use Rattle.std.specs.Prelude.{flat_map}
use Rattle.std.proofs.lemmas.Grind.{flat_map-append}
use Rattle.std.proofs.lemmas.List.{map-append, reverse-append}
use Rattle.std.proofs.lemmas.List.Elements.{All-nil, All-head, All-tail, All-append}
use Rattle.spec_instructions.specs.Paths.{path_items}
use Rattle.spec_instructions.specs.Fields.{visible, fields}
use Rattle.mrs_arena.specs.Flat.{FlatItem, FlatNode}
use Rattle.mrs_arena.specs.Paths.{ancestors}
use Rattle.mrs_arena.specs.Nodes.{node_items, parents_of}
use Rattle.mrs_arena.specs.Placed.{text_of, item_of, own_at, path_to, IsHeldItem, AreHeld}
use Rattle.ast_eval.specs.Fields.{items_to, fields_by}

-- the items along a path that is given from its end up, with one node more at the end
pub items_turned : (nodes : List FlatNode) (n : ℕ) (path : List ℕ) → flat_map (node_items nodes) (reverse (n ∷ path)) ≡ flat_map (node_items nodes) (reverse path) ++ node_items nodes n
items_turned nodes n path =
    ap (flat_map (node_items nodes)) (reverse-append (n ∷ []) path)
    ∙ flat_map-append (node_items nodes) (reverse path) (n ∷ [])
    ∙ ap (λ items. flat_map (node_items nodes) (reverse path) ++ items) (append-nil (node_items nodes n))

-- the items of a node that is there
pub items-at : (nodes : List FlatNode) (n : ℕ) (node : FlatNode) → slice_get nodes n ≡ Some node → node_items nodes n ≡ node.items
items-at [] n node at = absurd (cc)
items-at (first ∷ nodes) zero node at = let same : first ≡ node = cc in ap (λ (node : FlatNode). node.items) same
items-at (first ∷ nodes) (suc n) node at = items-at nodes n node at

own_items : (names : List (List ℕ)) (nodes : List FlatNode) (n : ℕ) → (own_at names nodes n).items ≡ map (item_of names) (node_items nodes n)
own_items names [] n = refl
own_items names (node ∷ nodes) zero = refl
own_items names (node ∷ nodes) (suc n) = own_items names nodes n

pub path_items_of : (names : List (List ℕ)) (nodes : List FlatNode) (path : List ℕ) → path_items (map (own_at names nodes) path) ≡ map (item_of names) (flat_map (node_items nodes) path)
path_items_of names nodes [] = refl
path_items_of names nodes (n ∷ path) =
    ap (λ items. items ++ path_items (map (own_at names nodes) path)) (own_items names nodes n)
    ∙ ap (λ rest. map (item_of names) (node_items nodes n) ++ rest) (path_items_of names nodes path)
    ∙ sym (map-append (item_of names) (node_items nodes n) (flat_map (node_items nodes) path))

-- the items along a path are those of the arena with texts for the numbers of names
pub path_items_to : (names : List (List ℕ)) (nodes : List FlatNode) (n : ℕ) → path_items (path_to names nodes n) ≡ map (item_of names) (items_to nodes n)
path_items_to names nodes n = path_items_of names nodes (reverse (ancestors (parents_of nodes) n))

-- and so are the fields that are visible behind them
pub fields_to : (names : List (List ℕ)) (nodes : List FlatNode) (n : ℕ) → fields_by (text_of names) (items_to nodes n) ≡ fields (path_to names nodes n)
fields_to names nodes n = ap visible (sym (path_items_to names nodes n))

-- ---- what holds of the items of all nodes

items_at-all : (P : FlatItem → Type 0) (nodes : List FlatNode) → All (λ node. All P node.items) nodes → (n : ℕ) → All P (node_items nodes n)
items_at-all P [] each n = All-nil P
items_at-all P (node ∷ nodes) each zero = All-head (λ node. All P node.items) node nodes each
items_at-all P (node ∷ nodes) each (suc n) = items_at-all P nodes (All-tail (λ node. All P node.items) node nodes each) n

pub items_on-all : (P : FlatItem → Type 0) (nodes : List FlatNode) → All (λ node. All P node.items) nodes → (path : List ℕ) → All P (flat_map (node_items nodes) path)
items_on-all P nodes each [] = All-nil P
items_on-all P nodes each (n ∷ path) = All-append P (node_items nodes n) (flat_map (node_items nodes) path) (items_at-all P nodes each n) (items_on-all P nodes each path)

-- holds of those along a path
pub all_to : (P : FlatItem → Type 0) (nodes : List FlatNode) → All (λ node. All P node.items) nodes → (n : ℕ) → All P (items_to nodes n)
all_to P nodes each n = items_on-all P nodes each (reverse (ancestors (parents_of nodes) n))

-- the names of the items along a path are held where those of all nodes are
pub held_to : (names : List (List ℕ)) (nodes : List FlatNode) → AreHeld names nodes → (n : ℕ) → All (IsHeldItem names) (items_to nodes n)
held_to names nodes held n = all_to (IsHeldItem names) nodes (λ k d within. (held k d within).items) n
