-- The paths of the nodes of a tree are the paths of the tree.
use Rattle.std.proofs.Common.{◌≡◌, ◌≢◌, ◌∙◌, sym, ap, refl, subst, ℕ, zero, suc, ◌+◌, ◌<◌, ◌≤◌, Bool, true, false, cond, List, [], ◌∷◌, ◌++◌, length, map, reverse, drop, Option, Some, None, IfSome, option_map, unwrap_or, arith, inl, inr, append-nil, append_assoc, filter}
use Rattle.std.specs.Prelude.{slice_get, slice_index_or}
use Rattle.std.specs.List.{range_with_len}
use Rattle.std.proofs.lemmas.Grind.{reverse_onto}
use Rattle.std.proofs.lemmas.List.{map-append, length-map}
use Rattle.std.proofs.lemmas.Simd.{map-map}
use Rattle.std.proofs.Math.Seq.{drop-nil}
use Rattle.std.proofs.lemmas.Option.{slice_get_within, get_or_from_slice_get, slice_get-map}
use Rattle.spec_instructions.specs.Kind as kind
use Rattle.spec_instructions.specs.Kind.{Kind, kinds_in}
use Rattle.spec_instructions.specs.Tree.{Own, Node, node, Nodes, no_nodes, more}
use Rattle.spec_instructions.specs.Paths.{paths_at, paths_from, paths_among}
use Rattle.spec_instructions.specs.Shape.{IsAmong, IsShaped, AreShaped}
use Rattle.mrs_arena.specs.declared.kind.Kind as arena
use Rattle.mrs_arena.specs.declared.kind.Kind.TheVariants as variant
use Rattle.mrs_arena.specs.Flat.{FlatNode}
use Rattle.mrs_arena.specs.Paths.{path_up, ancestors}
use Rattle.mrs_arena.specs.Nodes.{parents_of}
use Rattle.mrs_arena.specs.Limits.{is_leaf}
use Rattle.mrs_names.specs.Texts.{IsExtended}
use Rattle.mrs_arena.specs.Placed.{kind_of, Placed, placed_node, preorder, preorders, IsTree, no_own, path_to, has_kind, leaves_of, paths_of, AreHeld}
use Rattle.mrs_arena.proofs.HeldLaws.{placed-extended}
use Rattle.mrs_arena.proofs.PathLaws.{ancestors-step}

-- ---- the rest of a list

-- element n, and the elements after it
pub get_next : {X : Type 0} (xs : List X) (n : ℕ) (x : X) (rest : List X) → drop n xs ≡ x ∷ rest → slice_get xs n ≡ Some x
get_next {X} [] n x rest e = absurd (let none = drop-nil {A = X} n in cc)
get_next (y ∷ xs) zero x rest e = cc
get_next (y ∷ xs) (suc n) x rest e = get_next xs n x rest e

pub drop_next : {X : Type 0} (xs : List X) (n : ℕ) (x : X) (rest : List X) → drop n xs ≡ x ∷ rest → drop (n + 1) xs ≡ rest
drop_next {X} [] n x rest e = absurd (let none = drop-nil {A = X} n in cc)
drop_next (y ∷ xs) zero x rest e = cc
drop_next (y ∷ xs) (suc n) x rest e = let further : suc n + 1 ≡ suc (n + 1) = omega arith in ap (λ k. drop k (y ∷ xs)) further ∙ drop_next xs n x rest e

-- the elements after several ones
pub drop_past : {X : Type 0} (xs : List X) (n : ℕ) (front rest : List X) → drop n xs ≡ front ++ rest → drop (n + length front) xs ≡ rest
drop_past xs n [] rest e = let same : n + 0 ≡ n = omega arith in ap (λ k. drop k xs) same ∙ e
drop_past xs n (x ∷ front) rest e =
    let further : n + suc (length front) ≡ n + 1 + length front = omega arith in
    ap (λ k. drop k xs) further ∙ drop_past xs (n + 1) front rest (drop_next xs n x (front ++ rest) e)

-- ---- paths of placed_node nodes

abbrev pub parents_in : List Placed → List (Option ℕ)
parents_in ps = map (λ p. p.parent) ps

abbrev pub own_in : List Placed → ℕ → Own
own_in ps n = slice_index_or (map (λ p. p.own) ps) n no_own

-- the nodes down to node n, and those down to a parent
abbrev pub path_in : List Placed → ℕ → List Own
path_in ps n = map (own_in ps) (reverse (ancestors (parents_in ps) n))

abbrev pub path_above : List Placed → Option ℕ → List Own
path_above ps None = []
path_above ps (Some p) = path_in ps p

abbrev pub IsBefore : Option ℕ → ℕ → Type 0
IsBefore parent n = IfSome parent (λ p. p < n)

before_is : (parent : Option ℕ) (n p : ℕ) → parent ≡ Some p → IsBefore parent n → p < n
before_is None n p e before = absurd cc
before_is (Some q) n p e before = let same : q ≡ p = cc in omega arith

pub before_later : (parent : Option ℕ) (n m : ℕ) → n ≤ m → IsBefore parent n → IsBefore parent m
before_later None n m le before = tt
before_later (Some p) n m le before = omega arith

path_above-up : (ps : List Placed) (parent : Option ℕ) → map (own_in ps) (reverse (path_up (parents_in ps) parent)) ≡ path_above ps parent
path_above-up ps None = refl
path_above-up ps (Some p) = refl

-- the path of node n goes on with that of its parent
pub path_in-step : (ps : List Placed) (n : ℕ) (p : Placed) (rest : List Placed) → drop n ps ≡ p ∷ rest → IsBefore p.parent n → path_in ps n ≡ path_above ps p.parent ++ p.own ∷ []
path_in-step ps n p rest e before =
    let here = get_next ps n p rest e in
    let parents = parents_in ps in
    let up = path_up parents p.parent in
    let parent = get_or_from_slice_get parents n p.parent None (slice_get-map (λ q. q.parent) ps n ∙ ap (option_map (λ q. q.parent)) here) in
    let own = get_or_from_slice_get (map (λ q. q.own) ps) n p.own no_own (slice_get-map (λ q. q.own) ps n ∙ ap (option_map (λ q. q.own)) here) in
    ap (λ ns. map (own_in ps) (reverse ns)) (ancestors-step parents n (omega (arith, slice_get_within ps n p here, length-map ps (λ q. q.parent))) (λ q f. before_is p.parent n q (sym parent ∙ f) before))
    ∙ ap (λ above. map (own_in ps) (reverse (n ∷ path_up parents above))) parent
    ∙ ap (map (own_in ps)) (reverse_onto up n [])
    ∙ map-append (own_in ps) (reverse up) (n ∷ [])
    ∙ ap (λ owns. owns ++ own_in ps n ∷ []) (path_above-up ps p.parent)
    ∙ ap (λ last. path_above ps p.parent ++ last ∷ []) own

-- ---- leaves of placed_node nodes

abbrev pub is_leaf_kind : Kind → Bool
is_leaf_kind kind.Set = false
is_leaf_kind kind.Group = false
is_leaf_kind kind.Leaf = true
is_leaf_kind kind.Alias = false
is_leaf_kind kind.Instance = false

-- the numbers of the leaves, where the first node has number n
abbrev pub leaf_numbers : ℕ → List Placed → List ℕ
leaf_numbers n [] = []
leaf_numbers n (p ∷ ps) = cond (is_leaf_kind p.own.kind) (n ∷ leaf_numbers (n + 1) ps) (leaf_numbers (n + 1) ps)

with_first : (b : Bool) (n : ℕ) (all first rest : List ℕ) → all ≡ first ++ rest → cond b (n ∷ all) all ≡ cond b (n ∷ first) first ++ rest
with_first true n all first rest e = ap (λ ns. n ∷ ns) e
with_first false n all first rest e = e

pub leaf_numbers-append : (n : ℕ) (ps qs : List Placed) → leaf_numbers n (ps ++ qs) ≡ leaf_numbers n ps ++ leaf_numbers (n + length ps) qs
leaf_numbers-append n [] qs = let same : n ≡ n + 0 = omega arith in ap (λ k. leaf_numbers k qs) same
leaf_numbers-append n (p ∷ ps) qs =
    let further : n + 1 + length ps ≡ n + suc (length ps) = omega arith in
    with_first (is_leaf_kind p.own.kind) n (leaf_numbers (n + 1) (ps ++ qs)) (leaf_numbers (n + 1) ps) (leaf_numbers (n + suc (length ps)) qs)
    (leaf_numbers-append (n + 1) ps qs ∙ ap (λ k. leaf_numbers (n + 1) ps ++ leaf_numbers k qs) further)

-- nothing stands where no kind may
pub none_shaped : (kids : Nodes) → AreShaped [] kids → kids ≡ no_nodes
none_shaped no_nodes shaped = refl
none_shaped (more t ts) shaped = absurd shaped.0.among

pub only_alias : (k : Kind) → IsAmong k (kinds_in kind.Leaf) → k ≢ kind.Instance → k ≡ kind.Alias
only_alias k (inl alias) is_node = alias
only_alias k (inr (inl instance)) is_node = absurd (is_node instance)
only_alias k (inr (inr none)) is_node = absurd none

-- no leaf stands below a leaf: only aliases do, and nothing below them
pub below_leaf : (parent : Option ℕ) (n m : ℕ) (kids : Nodes) → AreShaped (kinds_in kind.Leaf) kids → leaf_numbers m (preorders parent n kids) ≡ []
below_leaf parent n m no_nodes shaped = refl
below_leaf parent n m (more (node own kids) ts) shaped =
    let alias = only_alias own.kind shaped.0.among shaped.0.is_node in
    let none = none_shaped kids (subst (λ k. AreShaped (kinds_in k) kids) alias shaped.1.0) in
    let next = n + length (preorder parent n (node own kids)) in
    let numbers = leaf_numbers (m + 1) (preorders (Some n) (n + 1) kids ++ preorders parent next ts) in
    ap (λ k. cond (is_leaf_kind k) (m ∷ numbers) numbers) alias
    ∙ ap (λ ks. leaf_numbers (m + 1) (preorders (Some n) (n + 1) ks ++ preorders parent next ts)) none
    ∙ below_leaf parent next (m + 1) ts shaped.1.1

-- none stands below what is no set and no group
below_others : (k : Kind) (parent : Option ℕ) (n m : ℕ) (kids : Nodes) → AreShaped (kinds_in k) kids → k ≢ kind.Set → k ≢ kind.Group → leaf_numbers m (preorders parent n kids) ≡ []
below_others kind.Set parent n m kids shaped no_set no_group = absurd (no_set refl)
below_others kind.Group parent n m kids shaped no_set no_group = absurd (no_group refl)
below_others kind.Leaf parent n m kids shaped no_set no_group = below_leaf parent n m kids shaped
below_others kind.Alias parent n m kids shaped no_set no_group = ap (λ ks. leaf_numbers m (preorders parent n ks)) (none_shaped kids shaped)
below_others kind.Instance parent n m kids shaped no_set no_group = ap (λ ks. leaf_numbers m (preorders parent n ks)) (none_shaped kids shaped)

-- ---- the paths of the leaves

-- one node, given those below it
node_paths : (k : Kind) (f : ℕ → List Own) (n : ℕ) (path : List Own) (numbers : List ℕ) (below : List (List Own)) → f n ≡ path → (k ≢ kind.Set → k ≢ kind.Group → numbers ≡ []) → map f numbers ≡ below
    → map f (cond (is_leaf_kind k) (n ∷ numbers) numbers) ≡ paths_at k path below
node_paths kind.Set f n path numbers below here none rest = rest
node_paths kind.Group f n path numbers below here none rest = rest
node_paths kind.Leaf f n path numbers below here none rest = ap (λ p. p ∷ map f numbers) here ∙ ap (λ ns. path ∷ map f ns) (none (λ e. absurd cc) (λ e. absurd cc))
node_paths kind.Alias f n path numbers below here none rest = ap (map f) (none (λ e. absurd cc) (λ e. absurd cc))
node_paths kind.Instance f n path numbers below here none rest = ap (map f) (none (λ e. absurd cc) (λ e. absurd cc))

mutual
  -- a tree whose first node has number n among all nodes
  pub paths_one : (ps : List Placed) (parent : Option ℕ) (n : ℕ) (tree : Node) (after : List Placed) → drop n ps ≡ preorder parent n tree ++ after → IsBefore parent n → IsShaped tree
      → map (path_in ps) (leaf_numbers n (preorder parent n tree)) ≡ paths_from (path_above ps parent) tree
  paths_one ps parent n (node own kids) after e before shaped =
      let rest = preorders (Some n) (n + 1) kids ++ after in
      let here = path_in-step ps n (record { parent = parent; own = own }) rest e before in
      let path = path_above ps parent ++ own ∷ [] in
      let below = paths_all ps (kinds_in own.kind) (Some n) (n + 1) kids after (drop_next ps n (record { parent = parent; own = own }) rest e) (omega arith) shaped in
      node_paths own.kind (path_in ps) n path (leaf_numbers (n + 1) (preorders (Some n) (n + 1) kids)) (paths_among path kids) here
      (λ no_set no_group. below_others own.kind (Some n) (n + 1) (n + 1) kids shaped no_set no_group)
      (below ∙ ap (λ above. paths_among above kids) here)

  pub paths_all : (ps : List Placed) (kinds : List Kind) (parent : Option ℕ) (n : ℕ) (trees : Nodes) (after : List Placed) → drop n ps ≡ preorders parent n trees ++ after → IsBefore parent n → AreShaped kinds trees
      → map (path_in ps) (leaf_numbers n (preorders parent n trees)) ≡ paths_among (path_above ps parent) trees
  paths_all ps kinds parent n no_nodes after e before shaped = refl
  paths_all ps kinds parent n (more t ts) after e before shaped =
      let first = preorder parent n t in
      let next = n + length first in
      let later = preorders parent next ts in
      let split = e ∙ append_assoc first later after in
      ap (map (path_in ps)) (leaf_numbers-append n first later)
      ∙ map-append (path_in ps) (leaf_numbers n first) (leaf_numbers next later)
      ∙ ap (λ paths. paths ++ map (path_in ps) (leaf_numbers next later)) (paths_one ps parent n t (later ++ after) split before shaped.1.0)
      ∙ ap (λ paths. paths_from (path_above ps parent) t ++ paths) (paths_all ps kinds parent next ts after (drop_past ps n first (later ++ after) split) (before_later parent n next (omega arith) before) shaped.1.1)

-- ---- nodes of an arena as placed_node nodes

-- the nodes down to node n, by what all nodes are and what stands above them
abbrev path_by : List Own → List (Option ℕ) → ℕ → List Own
path_by owns parents n = map (λ k. slice_index_or owns k no_own) (reverse (ancestors parents n))

pub paths_placed : (names : List (List ℕ)) (nodes : List FlatNode) (numbers : List ℕ) → map (path_to names nodes) numbers ≡ map (path_in (map (placed_node names) nodes)) numbers
paths_placed names nodes numbers =
    ap (λ owns. map (path_by owns (parents_of nodes)) numbers) (sym (map-map (λ p. p.own) (placed_node names) nodes))
    ∙ ap (λ parents. map (path_by (map (λ p. p.own) (map (placed_node names) nodes)) parents) numbers) (sym (map-map (λ p. p.parent) (placed_node names) nodes))

pub is_leaf-kind_of : (k : arena.Kind) → is_leaf_kind (kind_of k) ≡ is_leaf k
is_leaf-kind_of variant.Set = refl
is_leaf-kind_of variant.Group = refl
is_leaf-kind_of variant.Leaf = refl
is_leaf-kind_of variant.Alias = refl

has_kind-next : (nodes : List FlatNode) (n : ℕ) (x : FlatNode) (rest : List FlatNode) → drop n nodes ≡ x ∷ rest → has_kind is_leaf nodes n ≡ is_leaf x.kind
has_kind-next nodes n x rest e = ap (λ found. unwrap_or (option_map (λ node. is_leaf node.kind) found) false) (get_next nodes n x rest e)

-- the leaves from node n on
leaves_placed : (names : List (List ℕ)) (nodes : List FlatNode) (n : ℕ) (rest : List FlatNode) → drop n nodes ≡ rest → filter (has_kind is_leaf nodes) (range_with_len n (length rest)) ≡ leaf_numbers n (map (placed_node names) rest)
leaves_placed names nodes n [] e = refl
leaves_placed names nodes n (x ∷ rest) e =
    let numbers = filter (has_kind is_leaf nodes) (range_with_len (n + 1) (length rest)) in
    ap (λ b. cond b (n ∷ numbers) numbers) (has_kind-next nodes n x rest e ∙ sym (is_leaf-kind_of x.kind))
    ∙ ap (λ ns. cond (is_leaf_kind (kind_of x.kind)) (n ∷ ns) ns) (leaves_placed names nodes (n + 1) rest (drop_next nodes n x rest e))

pub paths_of_tree : (names : List (List ℕ)) (nodes : List FlatNode) (tree : Node) → IsTree names nodes tree → IsShaped tree → paths_of names nodes ≡ paths_from [] tree
paths_of_tree names nodes tree is shaped =
    let ps = map (placed_node names) nodes in
    paths_placed names nodes (leaves_of nodes)
    ∙ ap (map (path_in ps)) (leaves_placed names nodes 0 nodes refl)
    ∙ ap (λ qs. map (path_in ps) (leaf_numbers 0 qs)) is
    ∙ paths_one ps None 0 tree [] (is ∙ sym (append-nil (preorder None 0 tree))) tt shaped

-- added names leave the paths to the leaves as they were
pub paths_of-extended : (old new : List (List ℕ)) (nodes : List FlatNode) → IsExtended old new → AreHeld old nodes → paths_of new nodes ≡ paths_of old nodes
paths_of-extended old new nodes extended held =
    paths_placed new nodes (leaves_of nodes)
    ∙ ap (λ ps. map (path_in ps) (leaves_of nodes)) (placed-extended old new nodes extended held)
    ∙ sym (paths_placed old nodes (leaves_of nodes))
