-- What the nodes of a draft stand for, as items are put.
use Rattle.std.proofs.Common.{◌≡◌, ◌∙◌, sym, ap, refl, ℕ, zero, suc, ◌+◌, ◌-◌, ◌<◌, ◌≤◌, Bool, true, false, ◌&&◌, ◌||◌, nat_le, nat_lt, List, [], ◌∷◌, ◌++◌, length, map, Option, Some, None, is_some, option_map, option_to_list, IfSome, All, bytes_eq, arith, Ok, Err}
use Rattle.std.specs.Prelude.{flat_map}
use Rattle.std.specs.List.{list_any}
use Rattle.std.proofs.lemmas.Bool.{leb-false, leb-true, le-leb, lt-leb, lt-ltb, le-ltb, or_parts, and_left, and_right}
use Rattle.std.proofs.lemmas.List.{map_push, map-append, length-map}
use Rattle.std.proofs.lemmas.List.Elements.{All-nil, All-head, All-tail}
use Rattle.spec_walk.specs.Event.{TooMany}
use Rattle.spec_walk.specs.Walk.{gives}
use Rattle.spec_walk.specs.Spot.{Spot, unless}
use Rattle.spec_instructions.specs.Encodeset.{within_limits, named_in}
use Rattle.spec_expressions.specs.Expression.{ExprOf}
use Rattle.mrs_names.specs.Texts.{place_of, AreNames}
use Rattle.mrs_names.specs.declared.name_id.NameId.{NameId}
use Rattle.mrs_arena.specs.Flat.{FlatItem, FlatNode, Built}
use Rattle.mrs_arena.specs.Paths.{ancestors}
use Rattle.mrs_arena.specs.Nodes as flat
use Rattle.mrs_arena.specs.Nodes.{parents_of, named_on, items_upward, with_item}
use Rattle.mrs_arena.specs.Limits.{is_item_refused}
use Rattle.mrs_arena.specs.Formed.{AreNodes}
use Rattle.mrs_arena.specs.Placed.{text_of, item_of, expr_of, own_of_flat, Placed, placed_node, IsHeldItem, IsHeldNode, AreHeld}
use Rattle.mrs_arena.proofs.HeldLaws.{parents-placed, count_by-map, is_some-map}
use Rattle.mrs_arena.proofs.LastOneLaws.{map-at_last}
use Rattle.mrs_arena.proofs.PutLaws.{length-with_item}
use Rattle.schema_draft.specs.Drafted.{counts, drafted, items_at, last_items, named_at, last_named, with_items, with_condition, with_preferred}
use Rattle.schema_draft.proofs.PlacedLaws.{last_named-with_items}
use Rattle.schema_draft.proofs.CountLaws.{more_nodes, counts-at_last}
use Rattle.spec_instructions.specs.Encodeset.{names_of}
use Rattle.schema_draft.proofs.TakenLaws.{place_of-held, has_number, has_number-is, has_no_number}

-- ---- items

items-placed : (names : List (List ℕ)) (nodes : List FlatNode) (n : ℕ) → items_at (map (placed_node names) nodes) n ≡ map (item_of names) (flat.node_items nodes n)
items-placed names [] n = refl
items-placed names (node ∷ nodes) zero = refl
items-placed names (node ∷ nodes) (suc n) = items-placed names nodes n

last_items-placed : (names : List (List ℕ)) (nodes : List FlatNode) → last_items (map (placed_node names) nodes) ≡ map (item_of names) (flat.last_items nodes)
last_items-placed names nodes = ap (λ n. items_at (map (placed_node names) nodes) (n - 1)) (length-map nodes (placed_node names)) ∙ items-placed names nodes (length nodes - 1)

items-held : (names : List (List ℕ)) (nodes : List FlatNode) (n : ℕ) → AreHeld names nodes → All (IsHeldItem names) (flat.node_items nodes n)
items-held names [] n held = All-nil (IsHeldItem names)
items-held names (node ∷ nodes) zero held = let first = All-head (IsHeldNode names) node nodes held in first.items
items-held names (node ∷ nodes) (suc n) held = items-held names nodes n (All-tail (IsHeldNode names) node nodes held)

last_items-held : (names : List (List ℕ)) (nodes : List FlatNode) → AreHeld names nodes → All (IsHeldItem names) (flat.last_items nodes)
last_items-held names nodes held = items-held names nodes (length nodes - 1) held

path-placed : (names : List (List ℕ)) (nodes : List FlatNode) (ks : List ℕ) → flat_map (items_at (map (placed_node names) nodes)) ks ≡ map (item_of names) (flat_map (flat.node_items nodes) ks)
path-placed names nodes [] = refl
path-placed names nodes (k ∷ ks) =
    ap (λ items. items ++ flat_map (items_at (map (placed_node names) nodes)) ks) (items-placed names nodes k)
    ∙ ap (λ items. map (item_of names) (flat.node_items nodes k) ++ items) (path-placed names nodes ks)
    ∙ sym (map-append (item_of names) (flat.node_items nodes k) (flat_map (flat.node_items nodes) ks))

-- as many items of a path are named
named_at-placed : (names : List (List ℕ)) (nodes : List FlatNode) (n : ℕ) → named_at (map (placed_node names) nodes) n ≡ named_on nodes n
named_at-placed names nodes n =
    ap (λ ps. named_in (flat_map (items_at (map (placed_node names) nodes)) (ancestors ps n))) (parents-placed names nodes)
    ∙ ap named_in (path-placed names nodes (ancestors (parents_of nodes) n))
    ∙ count_by-map (λ it. is_some it.name) (λ it. is_some it.name) (item_of names) (items_upward nodes n) (λ it. is_some-map (text_of names) it.name)

pub placed-with_item : (names : List (List ℕ)) (it : FlatItem) (nodes : List FlatNode) → map (placed_node names) (with_item it nodes) ≡ with_items (item_of names it ∷ []) (map (placed_node names) nodes)
placed-with_item names it nodes =
    map-at_last (placed_node names) _ _ (λ node. ap (λ items. record (placed_node names node) { own = record (own_of_flat names node) { items = items } }) (map_push (item_of names) node.items it)) nodes

pub placed-with_condition : (names : List (List ℕ)) (e : ExprOf ℕ) (nodes : List FlatNode) → map (placed_node names) (flat.with_condition e nodes) ≡ with_condition (Some (expr_of names e)) (map (placed_node names) nodes)
placed-with_condition names e nodes = map-at_last (placed_node names) _ _ (λ node. refl) nodes

pub placed-with_preferred : (names : List (List ℕ)) (e : ExprOf ℕ) (nodes : List FlatNode) → map (placed_node names) (flat.with_preferred e nodes) ≡ with_preferred (Some (expr_of names e)) (map (placed_node names) nodes)
placed-with_preferred names e nodes = map-at_last (placed_node names) _ _ (λ node. refl) nodes

-- ---- limits

named_one : (names : List (List ℕ)) (it : FlatItem) (name : Option ℕ) → it.name ≡ name → named_in (item_of names it ∷ []) ≡ length (option_to_list name)
named_one names it name e = ap (λ o. named_in (record { name = option_map (text_of names) o; start = it.start; digits = it.digits; marks = it.marks } ∷ [])) e ∙ go name
  where
    go : (o : Option ℕ) → named_in (record { name = option_map (text_of names) o; start = it.start; digits = it.digits; marks = it.marks } ∷ []) ≡ length (option_to_list o)
    go None = refl
    go (Some id) = refl

length-last_items : (names : List (List ℕ)) (nodes : List FlatNode) → length (last_items (map (placed_node names) nodes)) ≡ length (flat.last_items nodes)
length-last_items names nodes = ap length (last_items-placed names nodes) ∙ length-map (flat.last_items nodes) (item_of names)

last_named-placed : (names : List (List ℕ)) (nodes : List FlatNode) → last_named (map (placed_node names) nodes) ≡ named_on nodes (length nodes - 1)
last_named-placed names nodes = ap (λ n. named_at (map (placed_node names) nodes) (n - 1)) (length-map nodes (placed_node names)) ∙ named_at-placed names nodes (length nodes - 1)

-- the named items of the last node's path stay within their limit with an item that was put
few_named : (names : List (List ℕ)) (nodes : List FlatNode) (it : FlatItem) → 0 < length nodes → AreNodes (with_item it nodes) → last_named (map (placed_node names) nodes) + length (option_to_list it.name) ≤ 256
few_named names nodes it some are =
    let count = length-with_item it nodes in
    let few = are.few_named (length (with_item it nodes) - 1) (omega arith) in
    let new = last_named-placed names (with_item it nodes) in
    let put = ap last_named (placed-with_item names it nodes) ∙ last_named-with_items (item_of names it ∷ []) (map (placed_node names) nodes) (omega (arith, length-map nodes (placed_node names))) in
    omega (arith, few, new, put, named_one names it it.name refl)

pub item_taken : (here : Spot) (names : List (List ℕ)) (b : Built) (it : FlatItem) (named : ℕ) → named ≡ length (option_to_list it.name) → 0 < length b.nodes → is_item_refused b.nodes it ≡ false → AreNodes (with_item it b.nodes)
    → gives (unless (within_limits (length (last_items (map (placed_node names) b.nodes))) (last_named (map (placed_node names) b.nodes) + named)) here TooMany) (counts (drafted names b))
    ≡ Ok (tt, counts (drafted names (more_nodes b (with_item it b.nodes))))
item_taken here names b it named is some room are =
    let nodes = b.nodes in
    let before = map (placed_node names) nodes in
    let parts = or_parts (nat_le 64 (length (flat.last_items nodes))) (is_some it.name && nat_le 256 (named_on nodes (length nodes - 1))) room in
    let low : length (last_items before) < 64 = omega (arith, length-last_items names nodes, leb-false 64 (length (flat.last_items nodes)) parts.0) in
    let few : last_named before + named ≤ 256 = omega (arith, few_named names nodes it some are) in
    let ended = λ (fits : Bool). gives (unless fits here TooMany) (counts (drafted names b)) in
    ap (λ b. ended (b && nat_le (last_named before + named) 256)) (lt-ltb (length (last_items before)) 64 low)
    ∙ ap ended (le-leb (last_named before + named) 256 few) ∙ ap (λ c. Ok (tt, c)) (counts-at_last names _ (λ node. refl) b)

pub item_refused : (here : Spot) (names : List (List ℕ)) (b : Built) (it : FlatItem) (named : ℕ) → named ≡ length (option_to_list it.name) → is_item_refused b.nodes it ≡ true
    → gives (unless (within_limits (length (last_items (map (placed_node names) b.nodes))) (last_named (map (placed_node names) b.nodes) + named)) here TooMany) (counts (drafted names b))
    ≡ Err (record { at = here.at; why = TooMany })
item_refused here names b it named is refused =
    ap (λ fits. gives (unless fits here TooMany) (counts (drafted names b))) (go (nat_le 64 (length (flat.last_items nodes))) refl it.name is refused)
  where
    nodes : List FlatNode
    nodes = b.nodes

    before : List Placed
    before = map (placed_node names) nodes

    go : (full : Bool) → nat_le 64 (length (flat.last_items nodes)) ≡ full → (name : Option ℕ) → named ≡ length (option_to_list name)
        → (full || (is_some name && nat_le 256 (named_on nodes (length nodes - 1)))) ≡ true
        → within_limits (length (last_items before)) (last_named before + named) ≡ false
    go true e name is h =
        let high : 64 ≤ length (last_items before) = omega (arith, length-last_items names nodes, leb-true 64 (length (flat.last_items nodes)) e) in
        and_left (nat_lt (length (last_items before)) 64) (nat_le (last_named before + named) 256) (le-ltb (length (last_items before)) 64 high)
    go false e None is h = absurd (cc)
    go false e (Some id) is h =
        let many : 256 < last_named before + named = omega (arith, is, last_named-placed names nodes, leb-true 256 (named_on nodes (length nodes - 1)) h) in
        and_right (nat_lt (length (last_items before)) 64) (nat_le (last_named before + named) 256) (lt-leb (last_named before + named) 256 many)

-- ---- names of the last node's items

-- a text that has a number is taken where an item of the last node has that number
pub has_number-last : (text : List ℕ) (names : List (List ℕ)) (nodes : List FlatNode) (id : ℕ) → AreNames names → AreHeld names nodes → place_of text names ≡ Some id
    → list_any (bytes_eq text) (names_of (last_items (map (placed_node names) nodes))) ≡ flat.is_taken (flat.last_items nodes) (Some id)
has_number-last text names nodes id are held place =
    let items = flat.last_items nodes in
    ap (λ its. list_any (bytes_eq text) (names_of its)) (last_items-placed names nodes)
    ∙ has_number-is text names items are.distinct (last_items-held names nodes held) ∙ ap (λ number. list_any (has_number number) items) place

-- and one without a number is not
pub has_no_number-last : (text : List ℕ) (names : List (List ℕ)) (nodes : List FlatNode) → AreNames names → AreHeld names nodes → place_of text names ≡ None
    → list_any (bytes_eq text) (names_of (last_items (map (placed_node names) nodes))) ≡ false
has_no_number-last text names nodes are held new =
    ap (λ its. list_any (bytes_eq text) (names_of its)) (last_items-placed names nodes)
    ∙ has_no_number text names (flat.last_items nodes) are.distinct (last_items-held names nodes held) new

-- ---- an item's name, by its number

pub IsHeld-number : (names : List (List ℕ)) (name : Option NameId) → IfSome name (λ id. id.0 < length names) → IfSome (option_map (λ id. id.0) name) (λ id. id < length names)
IsHeld-number names None held = tt
IsHeld-number names (Some id) held = held

pub length-number : (name : Option NameId) → length (option_to_list name) ≡ length (option_to_list (option_map (λ id. id.0) name))
length-number None = refl
length-number (Some id) = refl

-- a name whose text no item has is free
pub free_number : (names : List (List ℕ)) (nodes : List FlatNode) (name : Option NameId) → AreNames names → AreHeld names nodes → IfSome name (λ id. id.0 < length names)
    → IfSome name (λ id. list_any (bytes_eq (text_of names id.0)) (names_of (last_items (map (placed_node names) nodes))) ≡ false)
    → flat.is_taken (flat.last_items nodes) (option_map (λ id. id.0) name) ≡ false
free_number names nodes None are held own free = refl
free_number names nodes (Some id) are held own free = sym (has_number-last (text_of names id.0) names nodes id.0 are held (place_of-held names id.0 are.distinct own)) ∙ free
