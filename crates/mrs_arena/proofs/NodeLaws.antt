-- Laws of lists of nodes: what one more node, or one more item at the last node, changes and leaves.
use Rattle.std.proofs.Common.{◌≡◌, ◌∙◌, ap, refl, ℕ, ◌+◌, ◌-◌, ◌<◌, Bool, cond, List, [], ◌∷◌, ◌++◌, length, Option, Some, None, is_some, arith, zero-add}
use Rattle.std.specs.Prelude.{count_by}
use Rattle.std.proofs.lemmas.List.{map-append, length-map, length_push}
use Rattle.std.proofs.lemmas.List.Sums.{sum_by-append}
use Rattle.mrs_arena.specs.Flat.{FlatItem, FlatNode}
use Rattle.mrs_arena.specs.Nodes.{parents_of, node_items, last_items, items_upward, named_on, with_item}
use Rattle.mrs_arena.proofs.LastOneLaws.{at_last-push}
use Rattle.mrs_arena.proofs.AlongLaws.{parts_at-append, parts_at-push, parts_along-append, parts_up, parts_along-push}

-- ---- parents and items

pub parents_of-append : (nodes more : List FlatNode) → parents_of (nodes ++ more) ≡ parents_of nodes ++ parents_of more
parents_of-append nodes more = map-append (λ node. node.parent) nodes more

pub length-parents_of : (nodes : List FlatNode) → length (parents_of nodes) ≡ length nodes
length-parents_of nodes = length-map nodes (λ node. node.parent)

abbrev parent_of : FlatNode → Option ℕ
parent_of node = node.parent

abbrev items_of : FlatNode → List FlatItem
items_of node = node.items

-- the items of a node stay while more nodes are put
pub items_at-append : (nodes more : List FlatNode) (n : ℕ) → n < length nodes → node_items (nodes ++ more) n ≡ node_items nodes n
items_at-append nodes more n h = parts_at-append parent_of items_of nodes more n h

pub items_at-push : (nodes : List FlatNode) (node : FlatNode) → node_items (nodes ++ node ∷ []) (length nodes) ≡ node.items
items_at-push nodes node = parts_at-push parent_of items_of nodes node

pub last_items-push : (nodes : List FlatNode) (node : FlatNode) → last_items (nodes ++ node ∷ []) ≡ node.items
last_items-push nodes node =
    let last : length (nodes ++ node ∷ []) - 1 ≡ length nodes = omega (arith, length_push nodes node) in
    ap (λ n. node_items (nodes ++ node ∷ []) n) last ∙ items_at-push nodes node

-- ---- paths

pub path_items-append : (nodes more : List FlatNode) (n : ℕ) → n < length nodes → items_upward (nodes ++ more) n ≡ items_upward nodes n
path_items-append nodes more n h = parts_along-append parent_of items_of nodes more n h

-- the items along the path up from a node that may be there
abbrev pub items_up : List FlatNode → Option ℕ → List FlatItem
items_up nodes parent = parts_up parent_of items_of nodes parent

-- the items along the last node's path are its own and those along its parent's
pub path_items-push : (nodes : List FlatNode) (node : FlatNode) → items_upward (nodes ++ node ∷ []) (length nodes) ≡ node.items ++ items_up nodes node.parent
path_items-push nodes node = parts_along-push parent_of items_of nodes node

-- ---- how many items along a path are named

pub count_by-append : {X : Type 0} (p : X → Bool) (xs ys : List X) → count_by p (xs ++ ys) ≡ count_by p xs + count_by p ys
count_by-append p xs ys = sum_by-append (λ x. cond (p x) 1 0) xs ys

pub count_by_push : {X : Type 0} (p : X → Bool) (xs : List X) (y : X) → count_by p (xs ++ y ∷ []) ≡ count_by p xs + cond (p y) 1 0
count_by_push p xs y = count_by-append p xs (y ∷ []) ∙ ap (λ n. count_by p xs + n) (zero-add (cond (p y) 1 0))

abbrev pub named_in : List FlatItem → ℕ
named_in items = count_by (λ it. is_some it.name) items

pub named_on-append : (nodes more : List FlatNode) (n : ℕ) → n < length nodes → named_on (nodes ++ more) n ≡ named_on nodes n
named_on-append nodes more n h = ap named_in (path_items-append nodes more n h)

-- how many there are up from a node that may be there
abbrev pub named_up : List FlatNode → Option ℕ → ℕ
named_up nodes None = 0
named_up nodes (Some n) = named_on nodes n

pub named_on-push : (nodes : List FlatNode) (node : FlatNode) → named_on (nodes ++ node ∷ []) (length nodes) ≡ named_in node.items + named_up nodes node.parent
named_on-push nodes node =
    ap named_in (path_items-push nodes node) ∙ count_by-append (λ it. is_some it.name) node.items (items_up nodes node.parent) ∙ ap (λ n. named_in node.items + n) (above node.parent)
  where
    above : (p : Option ℕ) → named_in (items_up nodes p) ≡ named_up nodes p
    above None = refl
    above (Some p) = refl

-- ---- one more item at the last node

pub with_item-push : (it : FlatItem) (nodes : List FlatNode) (node : FlatNode) → with_item it (nodes ++ node ∷ []) ≡ nodes ++ (record node { items = node.items ++ it ∷ [] }) ∷ []
with_item-push it nodes node = at_last-push _ nodes node
