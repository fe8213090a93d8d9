-- Laws of nodes that are put one by one.
use Rattle.std.proofs.Common.{◌≡◌, ◌∙◌, sym, ap, refl, subst, ℕ, ◌+◌, ◌-◌, ◌<◌, List, [], ◌∷◌, ◌++◌, length, map, Option, Some, None, is_some, slice_index_or, arith, Contains, append-nil, append_assoc, length-append}
use Rattle.std.proofs.lemmas.List.{length_push, length-map, map-append}
use Rattle.spec_bits.specs.Item.{Item}
use Rattle.spec_instructions.specs.Tree.{Own, Node, node, Nodes, no_nodes, more}
use Rattle.mrs_arena.specs.Paths.{ancestors, IsPlace}
use Rattle.mrs_arena.specs.Placed.{Placed, preorder, preorders}
use Rattle.mrs_arena.proofs.PathLaws.{ancestors-append, ancestors-push, ancestors-self, Contains-there}
use Rattle.mrs_arena.proofs.PreorderLaws.{IsPlace-lt, IsPlace-last, IsPlace-up}
use Rattle.mrs_arena.proofs.NodeLaws.{count_by-append}
use Rattle.mrs_arena.proofs.LastOneLaws.{length-at_last, at_last-push}
use Rattle.mrs_arena.proofs.AlongLaws.{parts_at-push, parts_along-append, parts_along-push, parts_up}
use Rattle.spec_instructions.specs.Encodeset.{named_in}
use Rattle.schema_draft.specs.Drafted.{parents, named_at, last_items, last_named, more_items, with_items}

abbrev parent_of : Placed → Option ℕ
parent_of p = p.parent

abbrev items_of : Placed → List Item
items_of p = p.own.items

parents-append : (nodes more_nodes : List Placed) → parents (nodes ++ more_nodes) ≡ parents nodes ++ parents more_nodes
parents-append nodes more_nodes = map-append parent_of nodes more_nodes

length-parents : (nodes : List Placed) → length (parents nodes) ≡ length nodes
length-parents nodes = length-map nodes parent_of

-- ---- places

-- a place is one of the nodes
pub place_within : (nodes : List Placed) (p : ℕ) → IsPlace (parents nodes) (Some p) → p < length nodes
place_within nodes p h = omega (arith, IsPlace-lt (parents nodes) p h, length-parents nodes)

-- below a node that is put last there is a place
pub place_new : (nodes : List Placed) (x : Placed) → IsPlace (parents (nodes ++ x ∷ [])) (Some (length nodes))
place_new nodes x =
    subst (λ (ps : List (Option ℕ)). IsPlace ps (Some (length nodes))) (sym (parents-append nodes (x ∷ [])))
    (subst (λ (n : ℕ). IsPlace (parents nodes ++ x.parent ∷ []) (Some n)) (length-parents nodes) (IsPlace-last (parents nodes) x.parent))

-- a node's parent is on the path of the node, also when more nodes are put
on_path : (nodes : List Placed) (own : Own) (p : ℕ) (after : List Placed) → p < length nodes
    → Contains (ancestors (parents ((nodes ++ record { parent = Some p; own = own } ∷ []) ++ after)) (length nodes)) p
on_path nodes own p after within =
    let x : Placed = record { parent = Some p; own = own } in
    let front = parents nodes in
    let count = length-parents nodes in
    let path =
    ap (λ ps. ancestors ps (length nodes)) (parents-append (nodes ++ x ∷ []) after ∙ ap (λ ps. ps ++ parents after) (parents-append nodes (x ∷ [])))
    ∙ ancestors-append (front ++ Some p ∷ []) (parents after) (length nodes) (omega (arith, length_push front (Some p)))
    ∙ ap (λ n. ancestors (front ++ Some p ∷ []) n) (sym count) ∙ ancestors-push front (Some p) in
    subst (λ (ks : List ℕ). Contains ks p) (sym path) (Contains-there (length front) (ancestors front p) p (ancestors-self front p (omega arith)))

at_place : (first second : List Placed) (p : ℕ) → first ≡ second → IsPlace (parents first) (Some p) → IsPlace (parents second) (Some p)
at_place first second p same place = subst (λ (nodes : List Placed). IsPlace (parents nodes) (Some p)) same place

mutual
  -- a place stays one when a tree is put below it
  place_beside : (nodes : List Placed) (p : ℕ) (t : Node) → IsPlace (parents nodes) (Some p) → IsPlace (parents (nodes ++ preorder (Some p) (length nodes) t)) (Some p)
  place_beside nodes p (node own kids) h =
      let x : Placed = record { parent = Some p; own = own } in
      let front = nodes ++ x ∷ [] in
      let below = preorders (Some (length nodes)) (length front) kids in
      let count : length front ≡ length nodes + 1 = length_push nodes x in
      let deep = place_kept front (length nodes) kids (place_new nodes x) in
      let up = IsPlace-up (parents (front ++ below)) (length nodes) p deep (on_path nodes own p below (place_within nodes p h)) in
      at_place (front ++ below) (nodes ++ x ∷ preorders (Some (length nodes)) (length nodes + 1) kids) p
      (append_assoc nodes (x ∷ []) below ∙ ap (λ n. nodes ++ x ∷ preorders (Some (length nodes)) n kids) count) up

  -- a place stays one when trees are put below it
  pub place_kept : (nodes : List Placed) (p : ℕ) (ts : Nodes) → IsPlace (parents nodes) (Some p) → IsPlace (parents (nodes ++ preorders (Some p) (length nodes) ts)) (Some p)
  place_kept nodes p no_nodes h = at_place nodes (nodes ++ []) p (sym (append-nil nodes)) h
  place_kept nodes p (more t ts) h =
      let tree = preorder (Some p) (length nodes) t in
      let front = nodes ++ tree in
      let next = place_kept front p ts (place_beside nodes p t h) in
      at_place (front ++ preorders (Some p) (length front) ts) (nodes ++ (tree ++ preorders (Some p) (length nodes + length tree) ts)) p
      (append_assoc nodes tree (preorders (Some p) (length front) ts) ∙ ap (λ n. nodes ++ (tree ++ preorders (Some p) n ts)) (length-append nodes tree)) next

-- ---- named items along paths

pub named_kept : (nodes more_nodes : List Placed) (p : ℕ) → p < length nodes → named_at (nodes ++ more_nodes) p ≡ named_at nodes p
named_kept nodes more_nodes p within = ap named_in (parts_along-append parent_of items_of nodes more_nodes p within)

-- how many there are up from a node that may be there
abbrev pub named_up : List Placed → Option ℕ → ℕ
named_up nodes None = 0
named_up nodes (Some p) = named_at nodes p

named_push : (nodes : List Placed) (x : Placed) → named_at (nodes ++ x ∷ []) (length nodes) ≡ named_in x.own.items + named_up nodes x.parent
named_push nodes x =
    ap named_in (parts_along-push parent_of items_of nodes x) ∙ count_by-append (λ it. is_some it.name) x.own.items (parts_up parent_of items_of nodes x.parent)
    ∙ ap (λ n. named_in x.own.items + n) (above x.parent)
  where
    above : (p : Option ℕ) → named_in (parts_up parent_of items_of nodes p) ≡ named_up nodes p
    above None = refl
    above (Some p) = refl

-- the path of a node goes on with that of its parent
pub named_new : (nodes : List Placed) (own : Own) (p : ℕ) → p < length nodes → named_at (nodes ++ record { parent = Some p; own = own } ∷ []) (length nodes) ≡ named_in own.items + named_at nodes p
named_new nodes own p within = named_push nodes (record { parent = Some p; own = own })

pub named_root : (own : Own) → named_at (record { parent = None; own = own } ∷ []) 0 ≡ named_in own.items
named_root own = let put = named_push [] (record { parent = None; own = own }) in omega (arith, put)

-- ---- items of the last node

-- a node that is put, with more items
abbrev pub with_more : List Item → Placed → Placed
with_more items x = record x { own = more_items items x.own }

pub length-with_items : (items : List Item) (nodes : List Placed) → length (with_items items nodes) ≡ length nodes
length-with_items items nodes = length-at_last _ nodes

pub with_items-last : (items : List Item) (nodes : List Placed) (x : Placed) → with_items items (nodes ++ x ∷ []) ≡ nodes ++ with_more items x ∷ []
with_items-last items nodes x = at_last-push _ nodes x

-- where there are nodes, one is the last
record HasLast (nodes : List Placed) : Type 0 where
  front : List Placed
  last : Placed
  whole : nodes ≡ front ++ last ∷ []

last_of : (nodes : List Placed) → 0 < length nodes → HasLast nodes
last_of [] some = absurd (omega arith)
last_of (p ∷ []) some = record { front = []; last = p; whole = refl }
last_of (p ∷ q ∷ rest) some =
    let behind = last_of (q ∷ rest) (omega arith) in
    record { front = p ∷ behind.front; last = behind.last; whole = ap (λ nodes. p ∷ nodes) behind.whole }

pub last_number : (nodes : List Placed) (x : Placed) → length (nodes ++ x ∷ []) - 1 ≡ length nodes
last_number nodes x = omega (arith, length_push nodes x)

pub last_items-push : (nodes : List Placed) (x : Placed) → last_items (nodes ++ x ∷ []) ≡ x.own.items
last_items-push nodes x = ap (λ n. slice_index_or (map items_of (nodes ++ x ∷ [])) n []) (last_number nodes x) ∙ parts_at-push parent_of items_of nodes x

last_named-push : (nodes : List Placed) (x : Placed) → last_named (nodes ++ x ∷ []) ≡ named_in x.own.items + named_up nodes x.parent
last_named-push nodes x = ap (named_at (nodes ++ x ∷ [])) (last_number nodes x) ∙ named_push nodes x

pub last_items-with_items : (items : List Item) (nodes : List Placed) → 0 < length nodes → last_items (with_items items nodes) ≡ last_items nodes ++ items
last_items-with_items items nodes some =
    let at = last_of nodes some in
    ap (λ ns. last_items (with_items items ns)) at.whole ∙ ap last_items (with_items-last items at.front at.last) ∙ last_items-push at.front (with_more items at.last)
    ∙ ap (λ its. its ++ items) (sym (last_items-push at.front at.last) ∙ ap last_items (sym at.whole))

pub last_named-with_items : (items : List Item) (nodes : List Placed) → 0 < length nodes → last_named (with_items items nodes) ≡ last_named nodes + named_in items
last_named-with_items items nodes some =
    let at = last_of nodes some in
    let before : last_named nodes ≡ named_in at.last.own.items + named_up at.front at.last.parent = ap last_named at.whole ∙ last_named-push at.front at.last in
    let behind : last_named (with_items items nodes) ≡ named_in (at.last.own.items ++ items) + named_up at.front at.last.parent =
    ap (λ ns. last_named (with_items items ns)) at.whole ∙ ap last_named (with_items-last items at.front at.last) ∙ last_named-push at.front (with_more items at.last) in
    omega (arith, before, behind, count_by-append (λ it. is_some it.name) at.last.own.items items)

pub with_items-none : (nodes : List Placed) → with_items [] nodes ≡ nodes
with_items-none [] = refl
with_items-none (p ∷ []) = ap (λ items. record p { own = record p.own { items = items } } ∷ []) (append-nil p.own.items)
with_items-none (p ∷ q ∷ rest) = ap (λ nodes. p ∷ nodes) (with_items-none (q ∷ rest))

more_last : (first then : List Item) (front : List Placed) (x : Placed) → with_items then (with_items first (front ++ x ∷ [])) ≡ with_items (first ++ then) (front ++ x ∷ [])
more_last first then front x =
    ap (with_items then) (with_items-last first front x) ∙ with_items-last then front (with_more first x)
    ∙ ap (λ items. front ++ record x { own = record x.own { items = items } } ∷ []) (append_assoc x.own.items first then)
    ∙ sym (with_items-last (first ++ then) front x)

pub with_items-more : (first then : List Item) (nodes : List Placed) → with_items then (with_items first nodes) ≡ with_items (first ++ then) nodes
with_items-more first then [] = refl
with_items-more first then (p ∷ rest) =
    let at = last_of (p ∷ rest) (omega arith) in
    ap (λ nodes. with_items then (with_items first nodes)) at.whole ∙ more_last first then at.front at.last ∙ ap (with_items (first ++ then)) (sym at.whole)
