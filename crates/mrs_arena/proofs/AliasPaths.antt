-- The aliases among the nodes of a tree are the aliases of the tree.
use Rattle.std.proofs.Common.{◌≡◌, ◌≢◌, ◌∙◌, sym, ap, refl, subst, ℕ, zero, suc, ◌+◌, Bool, true, false, cond, List, [], ◌∷◌, ◌++◌, length, map, drop, Option, Some, None, option_map, unwrap_or, arith, inl, inr, append-nil, append_assoc, length-append, filter}
use Rattle.std.specs.Prelude.{slice_index_or}
use Rattle.std.specs.List.{range_with_len}
use Rattle.std.proofs.lemmas.List.{map-append, length-map}
use Rattle.std.proofs.lemmas.List.Elements.{filter-append}
use Rattle.std.proofs.lemmas.Simd.{map-map}
use Rattle.std.proofs.lemmas.Option.{get_or_from_slice_get, slice_get-map}
use Rattle.spec_instructions.specs.Kind as kind
use Rattle.spec_instructions.specs.Kind.{Kind, kinds_in}
use Rattle.spec_instructions.specs.Tree.{Own, Node, node, Nodes, no_nodes, more}
use Rattle.spec_instructions.specs.Paths.{paths_from}
use Rattle.spec_instructions.specs.Shape.{MayStand, node_kind, IsShaped, AreShaped, IsSetTree}
use Rattle.spec_instructions.specs.Aliases.{AliasPath, with_alias, leaf_aliases, aliases_at, aliases_from, aliases_among, aliases_in}
use Rattle.mrs_arena.specs.declared.kind.Kind as arena
use Rattle.mrs_arena.specs.declared.kind.Kind.TheVariants as variant
use Rattle.mrs_arena.specs.Flat.{FlatNode}
use Rattle.mrs_arena.specs.Nodes.{parents_of}
use Rattle.mrs_arena.specs.Limits.{is_leaf, is_alias}
use Rattle.mrs_arena.specs.Placed.{kind_of, Placed, placed_node, preorder, preorders, IsTree, no_own, own_at, path_to, has_kind, aliases_of}
use Rattle.mrs_arena.specs.AliasPaths.{leaves_before, leaf_number, alias_by, aliases_by}
use Rattle.mrs_arena.specs.AliasPaths as flat
use Rattle.mrs_arena.proofs.TreePaths.{get_next, drop_next, drop_past, parents_in, own_in, path_in, path_above, IsBefore, before_later, path_in-step, is_leaf_kind, leaf_numbers, none_shaped, only_alias, paths_one, paths_placed, is_leaf-kind_of}

-- ---- leaves that come before a node

range_last : (a n : ℕ) → range_with_len a (suc n) ≡ range_with_len a n ++ (a + n) ∷ []
range_last a zero = let same : a ≡ a + 0 = omega arith in ap (λ k. k ∷ []) same
range_last a (suc n) = let same : a + 1 + n ≡ a + suc n = omega arith in ap (λ ks. a ∷ ks) (range_last (a + 1) n ∙ ap (λ k. range_with_len (a + 1) n ++ k ∷ []) same)

abbrev is_leaf_in : List Placed → ℕ → Bool
is_leaf_in ps n = is_leaf_kind (own_in ps n).kind

abbrev leaves_up_to : List Placed → ℕ → ℕ
leaves_up_to ps n = length (filter (is_leaf_in ps) (range_with_len 0 n))

one_or_none : (b : Bool) (n : ℕ) → length (cond b (n ∷ []) []) ≡ cond b 1 0
one_or_none true n = refl
one_or_none false n = refl

own_next : (ps : List Placed) (n : ℕ) (p : Placed) (rest : List Placed) → drop n ps ≡ p ∷ rest → own_in ps n ≡ p.own
own_next ps n p rest e = get_or_from_slice_get (map (λ q. q.own) ps) n p.own no_own (slice_get-map (λ q. q.own) ps n ∙ ap (option_map (λ q. q.own)) (get_next ps n p rest e))

parent_next : (ps : List Placed) (n : ℕ) (p : Placed) (rest : List Placed) → drop n ps ≡ p ∷ rest → slice_index_or (parents_in ps) n None ≡ p.parent
parent_next ps n p rest e = get_or_from_slice_get (parents_in ps) n p.parent None (slice_get-map (λ q. q.parent) ps n ∙ ap (option_map (λ q. q.parent)) (get_next ps n p rest e))

leaves-next : (ps : List Placed) (n : ℕ) (p : Placed) (rest : List Placed) → drop n ps ≡ p ∷ rest → leaves_up_to ps (n + 1) ≡ leaves_up_to ps n + cond (is_leaf_kind p.own.kind) 1 0
leaves-next ps n p rest e =
    let count = filter (is_leaf_in ps) (range_with_len 0 n) in
    let last : n + 1 ≡ suc n = omega arith in
    let place : 0 + n ≡ n = omega arith in
    ap (leaves_up_to ps) last
    ∙ ap (λ ns. length (filter (is_leaf_in ps) ns)) (range_last 0 n ∙ ap (λ k. range_with_len 0 n ++ k ∷ []) place)
    ∙ ap length (filter-append (is_leaf_in ps) (range_with_len 0 n) (n ∷ []))
    ∙ length-append count (cond (is_leaf_in ps n) (n ∷ []) [])
    ∙ ap (λ k. length count + k) (one_or_none (is_leaf_in ps n) n ∙ ap (λ own. cond (is_leaf_kind own.kind) 1 0) (own_next ps n p rest e))

counted-first : (b : Bool) (n : ℕ) (numbers : List ℕ) (before : ℕ) → before + cond b 1 0 + length numbers ≡ before + length (cond b (n ∷ numbers) numbers)
counted-first true n numbers before = omega arith
counted-first false n numbers before = omega arith

-- the leaves before a node, and those of several nodes from it on
leaves-past : (ps : List Placed) (n : ℕ) (front rest : List Placed) → drop n ps ≡ front ++ rest → leaves_up_to ps (n + length front) ≡ leaves_up_to ps n + length (leaf_numbers n front)
leaves-past ps n [] rest e = let same : n + 0 ≡ n = omega arith in let none : leaves_up_to ps n ≡ leaves_up_to ps n + 0 = omega arith in ap (leaves_up_to ps) same ∙ none
leaves-past ps n (p ∷ front) rest e =
    let further : n + suc (length front) ≡ n + 1 + length front = omega arith in
    let numbers = leaf_numbers (n + 1) front in
    ap (leaves_up_to ps) further
    ∙ leaves-past ps (n + 1) front rest (drop_next ps n p (front ++ rest) e)
    ∙ ap (λ k. k + length numbers) (leaves-next ps n p (front ++ rest) e)
    ∙ counted-first (is_leaf_kind p.own.kind) n numbers (leaves_up_to ps n)

-- ---- aliases of placed nodes

abbrev is_alias_kind : Kind → Bool
is_alias_kind kind.Set = false
is_alias_kind kind.Group = false
is_alias_kind kind.Leaf = false
is_alias_kind kind.Alias = true
is_alias_kind kind.Instance = false

-- the numbers of the aliases, where the first node has number n
abbrev alias_numbers : ℕ → List Placed → List ℕ
alias_numbers n [] = []
alias_numbers n (p ∷ ps) = cond (is_alias_kind p.own.kind) (n ∷ alias_numbers (n + 1) ps) (alias_numbers (n + 1) ps)

with_first : (b : Bool) (n : ℕ) (all first rest : List ℕ) → all ≡ first ++ rest → cond b (n ∷ all) all ≡ cond b (n ∷ first) first ++ rest
with_first true n all first rest e = ap (λ ns. n ∷ ns) e
with_first false n all first rest e = e

alias_numbers-append : (n : ℕ) (ps qs : List Placed) → alias_numbers n (ps ++ qs) ≡ alias_numbers n ps ++ alias_numbers (n + length ps) qs
alias_numbers-append n [] qs = let same : n ≡ n + 0 = omega arith in ap (λ k. alias_numbers k qs) same
alias_numbers-append n (p ∷ ps) qs =
    let further : n + 1 + length ps ≡ n + suc (length ps) = omega arith in
    with_first (is_alias_kind p.own.kind) n (alias_numbers (n + 1) (ps ++ qs)) (alias_numbers (n + 1) ps) (alias_numbers (n + suc (length ps)) qs)
    (alias_numbers-append (n + 1) ps qs ∙ ap (λ k. alias_numbers (n + 1) ps ++ alias_numbers k qs) further)

abbrev leaf_in : List Placed → Option ℕ → ℕ
leaf_in ps None = 0
leaf_in ps (Some p) = leaves_up_to ps p

-- an alias below a parent
abbrev alias_below : List Placed → Option ℕ → Own → AliasPath
alias_below ps parent own = record { leaf = leaf_in ps parent; above = path_above ps parent; own = own }

abbrev alias_in : List Placed → ℕ → AliasPath
alias_in ps n = alias_below ps (slice_index_or (parents_in ps) n None) (own_in ps n)

alias-next : (ps : List Placed) (n : ℕ) (p : Placed) (rest : List Placed) → drop n ps ≡ p ∷ rest → alias_in ps n ≡ alias_below ps p.parent p.own
alias-next ps n p rest e = ap (λ parent. alias_below ps parent (own_in ps n)) (parent_next ps n p rest e) ∙ ap (alias_below ps p.parent) (own_next ps n p rest e)

-- ---- the aliases of one leaf, which is node n

leaf_kids : (ps : List Placed) (n m : ℕ) (kids : Nodes) (after : List Placed) → drop m ps ≡ preorders (Some n) m kids ++ after → AreShaped (kinds_in kind.Leaf) kids
    → map (alias_in ps) (alias_numbers m (preorders (Some n) m kids)) ≡ leaf_aliases (leaves_up_to ps n) (path_in ps n) kids
leaf_kids ps n m no_nodes after e shaped = refl
leaf_kids ps n m (more (node own kids) ts) after e shaped =
    let alias = only_alias own.kind shaped.0.among shaped.0.is_node in
    let none = none_shaped kids (subst (λ k. AreShaped (kinds_in k) kids) alias shaped.1.0) in
    let lone = ap (λ ks. preorders (Some n) m (more (node own ks) ts)) none in
    let later = preorders (Some n) (m + 1) ts in
    let here : Placed = record { parent = Some n; own = own } in
    let first = e ∙ ap (λ ps. ps ++ after) lone in
    let numbers = alias_numbers (m + 1) later in
    ap (λ qs. map (alias_in ps) (alias_numbers m qs)) lone
    ∙ ap (λ k. map (alias_in ps) (cond (is_alias_kind k) (m ∷ numbers) numbers)) alias
    ∙ ap (λ a. a ∷ map (alias_in ps) numbers) (alias-next ps m here (later ++ after) first)
    ∙ ap (λ rest. alias_below ps (Some n) own ∷ rest) (leaf_kids ps n (m + 1) ts after (drop_next ps m here (later ++ after) first) shaped.1.1)
    ∙ ap (λ k. with_alias k (alias_below ps (Some n) own) (leaf_aliases (leaves_up_to ps n) (path_in ps n) ts)) (sym alias)

-- ---- the aliases of a tree

-- nodes that have leaves at or below them
abbrev IsAbove : Kind → Type 0
IsAbove k = (k ≢ kind.Alias) × (k ≢ kind.Instance)

above_one : (k : Kind) → MayStand (kinds_in kind.Group) k → IsAbove k
above_one k h = elim h.among [
  | inl group ↦ (λ e. absurd cc, λ e. absurd cc)
  | inr (inl leaf) ↦ (λ e. absurd cc, λ e. absurd cc)
  | inr (inr (inl instance)) ↦ absurd (h.is_node instance)
  | inr (inr (inr none)) ↦ absurd none
]

-- one node, given those below it
node_aliases : (k : Kind) (f : ℕ → AliasPath) (n : ℕ) (numbers : List ℕ) (own below : List AliasPath) → IsAbove k → (k ≡ kind.Leaf → map f numbers ≡ own) → (is_leaf_kind k ≡ false → IsAbove k → map f numbers ≡ below)
    → map f (cond (is_alias_kind k) (n ∷ numbers) numbers) ≡ aliases_at k own below
node_aliases kind.Set f n numbers own below is leaf group = group refl is
node_aliases kind.Group f n numbers own below is leaf group = group refl is
node_aliases kind.Leaf f n numbers own below is leaf group = leaf refl
node_aliases kind.Alias f n numbers own below is leaf group = absurd (is.0 refl)
node_aliases kind.Instance f n numbers own below is leaf group = absurd (is.1 refl)

-- below a set or a group stands what may stand below a group
group_shaped : (k : Kind) (kids : Nodes) → is_leaf_kind k ≡ false → IsAbove k → AreShaped (kinds_in k) kids → AreShaped (kinds_in kind.Group) kids
group_shaped kind.Set kids none is shaped = shaped
group_shaped kind.Group kids none is shaped = shaped
group_shaped kind.Leaf kids none is shaped = absurd cc
group_shaped kind.Alias kids none is shaped = absurd (is.0 refl)
group_shaped kind.Instance kids none is shaped = absurd (is.1 refl)

leaves_below : (k : Kind) (before after : ℕ) → after ≡ before + cond (is_leaf_kind k) 1 0 → is_leaf_kind k ≡ false → after ≡ before
leaves_below k before after e none = e ∙ ap (λ b. before + cond b 1 0) none ∙ same
  where
    same : before + 0 ≡ before
    same = omega arith

mutual
  -- a tree whose first node has number n among all nodes
  aliases_one : (ps : List Placed) (parent : Option ℕ) (n : ℕ) (tree : Node) (after : List Placed) → drop n ps ≡ preorder parent n tree ++ after → IsBefore parent n → IsAbove (node_kind tree) → IsShaped tree
      → map (alias_in ps) (alias_numbers n (preorder parent n tree)) ≡ aliases_from (path_above ps parent) (leaves_up_to ps n) tree
  aliases_one ps parent n (node own kids) after e before is shaped =
      let below = preorders (Some n) (n + 1) kids in
      let one : Placed = record { parent = parent; own = own } in
      let further = drop_next ps n one (below ++ after) e in
      let here = path_in-step ps n one (below ++ after) e before in
      let path = path_above ps parent ++ own ∷ [] in
      let k = leaves_up_to ps n in
      node_aliases own.kind (alias_in ps) n (alias_numbers (n + 1) below) (leaf_aliases k path kids) (aliases_among path k kids) is
      (λ leaf. leaf_kids ps n (n + 1) kids after further (subst (λ k. AreShaped (kinds_in k) kids) leaf shaped) ∙ ap (λ above. leaf_aliases k above kids) here)
      (λ none above.
      aliases_all ps (Some n) (n + 1) kids after further (omega arith) (group_shaped own.kind kids none above shaped)
      ∙ ap (λ above. aliases_among above (leaves_up_to ps (n + 1)) kids) here
      ∙ ap (λ k. aliases_among path k kids) (leaves_below own.kind k (leaves_up_to ps (n + 1)) (leaves-next ps n one (below ++ after) e) none))

  aliases_all : (ps : List Placed) (parent : Option ℕ) (n : ℕ) (trees : Nodes) (after : List Placed) → drop n ps ≡ preorders parent n trees ++ after → IsBefore parent n → AreShaped (kinds_in kind.Group) trees
      → map (alias_in ps) (alias_numbers n (preorders parent n trees)) ≡ aliases_among (path_above ps parent) (leaves_up_to ps n) trees
  aliases_all ps parent n no_nodes after e before shaped = refl
  aliases_all ps parent n (more t ts) after e before shaped =
      let first = preorder parent n t in
      let next = n + length first in
      let later = preorders parent next ts in
      let above = path_above ps parent in
      let k = leaves_up_to ps n in
      let split = e ∙ append_assoc first later after in
      let count : length (leaf_numbers n first) ≡ length (paths_from above t) = sym (length-map (leaf_numbers n first) (path_in ps)) ∙ ap length (paths_one ps parent n t (later ++ after) split before shaped.1.0) in
      ap (map (alias_in ps)) (alias_numbers-append n first later)
      ∙ map-append (alias_in ps) (alias_numbers n first) (alias_numbers next later)
      ∙ ap (λ xs. xs ++ map (alias_in ps) (alias_numbers next later)) (aliases_one ps parent n t (later ++ after) split before (above_one (node_kind t) shaped.0) shaped.1.0)
      ∙ ap (λ xs. aliases_from above k t ++ xs) (aliases_all ps parent next ts after (drop_past ps n first (later ++ after) split) (before_later parent n next (omega arith) before) shaped.1.1)
      ∙ ap (λ j. aliases_from above k t ++ aliases_among above j ts) (leaves-past ps n first (later ++ after) split ∙ ap (λ j. k + j) count)

-- ---- nodes of an arena as placed nodes

filter-same : (p q : ℕ → Bool) → ((n : ℕ) → p n ≡ q n) → (ns : List ℕ) → filter p ns ≡ filter q ns
filter-same p q same [] = refl
filter-same p q same (n ∷ ns) = ap (λ b. cond b (n ∷ filter p ns) (filter p ns)) (same n) ∙ ap (λ ks. cond (q n) (n ∷ ks) ks) (filter-same p q same ns)

map-same : {X Y : Type 0} (f g : X → Y) → ((x : X) → f x ≡ g x) → (xs : List X) → map f xs ≡ map g xs
map-same f g same [] = refl
map-same f g same (x ∷ xs) = ap (λ y. y ∷ map f xs) (same x) ∙ ap (λ ys. g x ∷ ys) (map-same f g same xs)

is_alias-kind_of : (k : arena.Kind) → is_alias_kind (kind_of k) ≡ is_alias k
is_alias-kind_of variant.Set = refl
is_alias-kind_of variant.Group = refl
is_alias-kind_of variant.Leaf = refl
is_alias-kind_of variant.Alias = refl

has_leaf : (names : List (List ℕ)) (nodes : List FlatNode) (n : ℕ) → has_kind is_leaf nodes n ≡ is_leaf_in (map (placed_node names) nodes) n
has_leaf names [] n = refl
has_leaf names (x ∷ nodes) zero = sym (is_leaf-kind_of x.kind)
has_leaf names (x ∷ nodes) (suc n) = has_leaf names nodes n

-- the aliases from node n on
aliases_placed : (names : List (List ℕ)) (nodes : List FlatNode) (n : ℕ) (rest : List FlatNode) → drop n nodes ≡ rest → filter (has_kind is_alias nodes) (range_with_len n (length rest)) ≡ alias_numbers n (map (placed_node names) rest)
aliases_placed names nodes n [] e = refl
aliases_placed names nodes n (x ∷ rest) e =
    let numbers = filter (has_kind is_alias nodes) (range_with_len (n + 1) (length rest)) in
    ap (λ b. cond b (n ∷ numbers) numbers) (ap (λ found. unwrap_or (option_map (λ node. is_alias node.kind) found) false) (get_next nodes n x rest e) ∙ sym (is_alias-kind_of x.kind))
    ∙ ap (λ ns. cond (is_alias_kind (kind_of x.kind)) (n ∷ ns) ns) (aliases_placed names nodes (n + 1) rest (drop_next nodes n x rest e))

module _ (names : List (List ℕ)) (nodes : List FlatNode) where
  abbrev ps : List Placed
  ps = map (placed_node names) nodes

  below_placed : (parent : Option ℕ) (own : Own) → record { leaf = leaf_number nodes parent; above = flat.path_above names nodes parent; own = own } ≡ alias_below ps parent own
  below_placed None own = refl
  below_placed (Some p) own =
      let path : path_to names nodes p ∷ [] ≡ path_in ps p ∷ [] = paths_placed names nodes (p ∷ []) in
      let above : path_to names nodes p ≡ path_in ps p = cc in
      ap (λ ks. record { leaf = length ks; above = path_to names nodes p; own = own }) (filter-same (has_kind is_leaf nodes) (is_leaf_in ps) (has_leaf names nodes) (range_with_len 0 p))
      ∙ ap (λ qs. record { leaf = leaves_up_to ps p; above = qs; own = own }) above

  alias_placed : (n : ℕ) → alias_by names nodes n ≡ alias_in ps n
  alias_placed n =
      below_placed (slice_index_or (parents_of nodes) n None) (own_at names nodes n)
      ∙ ap (λ parents. alias_below ps (slice_index_or parents n None) (own_at names nodes n)) (sym (map-map (λ p. p.parent) (placed_node names) nodes))
      ∙ ap (λ owns. alias_below ps (slice_index_or (parents_in ps) n None) (slice_index_or owns n no_own)) (sym (map-map (λ p. p.own) (placed_node names) nodes))

-- the aliases of an arena are those of the tree that it stands for
pub aliases_of_tree : (names : List (List ℕ)) (nodes : List FlatNode) (tree : Node) → IsTree names nodes tree → IsSetTree tree → aliases_by names nodes ≡ aliases_in tree
aliases_of_tree names nodes tree is set =
    let all = map (placed_node names) nodes in
    map-same (alias_by names nodes) (alias_in all) (alias_placed names nodes) (aliases_of nodes)
    ∙ ap (map (alias_in all)) (aliases_placed names nodes 0 nodes refl)
    ∙ ap (λ qs. map (alias_in all) (alias_numbers 0 qs)) is
    ∙ aliases_one all None 0 tree [] (is ∙ sym (append-nil (preorder None 0 tree))) tt (let root = set.root in (λ e. absurd cc, λ e. absurd cc)) set.shaped
