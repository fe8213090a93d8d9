-- Laws of leaves, and of the names of paths.
use Rattle.std.proofs.Common.{◌≡◌, ◌∙◌, sym, ap, refl, ℕ, zero, suc, ◌+◌, ◌<◌, ◌≤◌, Bool, true, false, cond, ◌==◌, List, [], ◌∷◌, ◌++◌, length, map, filter, reverse, get_or, slice_get, Option, Some, None, unwrap_or, option_map, IfSome, All, bytes_eq, arith, append-nil}
use Rattle.std.specs.Prelude.{count_by}
use Rattle.std.specs.List.{range_with_len}
use Rattle.std.proofs.lemmas.List.{length-map, get_or-map, reverse-append, map-append}
use Rattle.std.proofs.lemmas.List.FromFn.{length-range_with_len, map-range_with_len_more, get_or-map-range_with_len}
use Rattle.std.proofs.lemmas.List.Sums.{length-filter, count_by-le-length}
use Rattle.std.proofs.lemmas.List.Elements.{All-filter, All-head, All-tail}
use Rattle.std.proofs.lemmas.Option.{get_or_from_slice_get, slice_get_within}
use Rattle.spec_instructions.specs.Tree.{Own}
use Rattle.spec_instructions.specs.Paths.{path_name, namesakes}
use Rattle.mrs_names.specs.Texts.{AreNames}
use Rattle.mrs_arena.specs.declared.kind.Kind.{Kind}
use Rattle.mrs_arena.specs.declared.node_id.NodeId.{NodeId}
use Rattle.mrs_arena.specs.Flat.{FlatNode}
use Rattle.mrs_arena.specs.Paths.{ancestors, path_up}
use Rattle.mrs_arena.specs.Nodes.{parents_of}
use Rattle.mrs_arena.specs.Formed.{AreNodes}
use Rattle.mrs_arena.specs.Limits.{is_leaf}
use Rattle.mrs_arena.specs.Placed.{text_of, own_at, path_to, has_kind, IsHeldNode, AreHeld}
use Rattle.mrs_arena.proofs.NodeLaws.{length-parents_of, count_by-append}
use Rattle.mrs_arena.proofs.PathLaws.{ancestors-step}
use Rattle.mrs_arena.proofs.PreorderLaws.{IsPreorder-parent}
use Rattle.insn_tree.specs.Ends.{name_at, end_names, sakes}
use Rattle.insn_tree.specs.Leaves.{leaves_before, leaf_number, leaf_above, counted_above}
use Rattle.insn_tree.proofs.RangeLaws.{range_below, keeps_more, keeps_yes}
use Rattle.mrs_arena.proofs.NameLaws.{text_eq}

-- ---- nodes of a kind

-- they are nodes, and no more than these
pub kept_within : (is : Kind → Bool) (nodes : List FlatNode) → All (λ n. n < length nodes) (filter (has_kind is nodes) (range_with_len 0 (length nodes)))
kept_within is nodes = All-filter (has_kind is nodes) (λ n. n < length nodes) (range_with_len 0 (length nodes)) (range_below (length nodes))

pub kept_few : (p : ℕ → Bool) (n : ℕ) → length (filter p (range_with_len 0 n)) ≤ n
kept_few p n = omega (arith, length-filter p (range_with_len 0 n), count_by-le-length p (range_with_len 0 n), length-range_with_len 0 n)

pub kind_at : (is : Kind → Bool) (nodes : List FlatNode) (n : ℕ) (node : FlatNode) → slice_get nodes n ≡ Some node → has_kind is nodes n ≡ is node.kind
kind_at is nodes n node at = ap (λ o. unwrap_or (option_map (λ node. is node.kind) o) false) at

-- one more node that is not of the kind, and one that is
pub kept_no : (is : Kind → Bool) (nodes : List FlatNode) (n : ℕ) (node : FlatNode) → slice_get nodes n ≡ Some node → is node.kind ≡ false → filter (has_kind is nodes) (range_with_len 0 (n + 1)) ≡ filter (has_kind is nodes) (range_with_len 0 n)
kept_no is nodes n node at other =
    keeps_more (has_kind is nodes) n
    ∙ ap (λ b. filter (has_kind is nodes) (range_with_len 0 n) ++ cond b (n ∷ []) []) (kind_at is nodes n node at ∙ other)
    ∙ append-nil (filter (has_kind is nodes) (range_with_len 0 n))

pub kept_yes : (is : Kind → Bool) (nodes : List FlatNode) (n : ℕ) (node : FlatNode) → slice_get nodes n ≡ Some node → is node.kind ≡ true → filter (has_kind is nodes) (range_with_len 0 (n + 1)) ≡ filter (has_kind is nodes) (range_with_len 0 n) ++ n ∷ []
kept_yes is nodes n node at same = keeps_yes (has_kind is nodes) n (kind_at is nodes n node at ∙ same)

pub parent-at : (nodes : List FlatNode) (n : ℕ) (node : FlatNode) → slice_get nodes n ≡ Some node → get_or (parents_of nodes) n None ≡ node.parent
parent-at nodes n node at = get_or-map (λ node. node.parent) nodes n node None (slice_get_within nodes n node at) ∙ ap (λ node. node.parent) (get_or_from_slice_get nodes n node node at)

-- ---- names of paths

own_name : (names : List (List ℕ)) (nodes : List FlatNode) (n : ℕ) → n < length nodes → (own_at names nodes n).name ≡ text_of names (name_at nodes n)
own_name names [] n h = absurd (omega arith)
own_name names (node ∷ nodes) zero h = refl
own_name names (node ∷ nodes) (suc n) h = own_name names nodes n (omega arith)

path_name-last : (path : List Own) (own : Own) → path_name (path ++ own ∷ []) ≡ own.name
path_name-last [] own = refl
path_name-last (first ∷ []) own = refl
path_name-last (first ∷ next ∷ rest) own = path_name-last (next ∷ rest) own

pub path_up-from : (nodes : List FlatNode) → AreNodes nodes → (n : ℕ) → n < length nodes → ancestors (parents_of nodes) n ≡ n ∷ path_up (parents_of nodes) (get_or (parents_of nodes) n None)
path_up-from nodes formed n h =
    let within : n < length (parents_of nodes) = omega (arith, h, length-parents_of nodes) in
    ancestors-step (parents_of nodes) n within (λ p e. IsPreorder-parent (parents_of nodes) n p formed.preorder within e)

-- the name of a path is that of its node
pub path_name-to : (names : List (List ℕ)) (nodes : List FlatNode) → AreNodes nodes → (n : ℕ) → n < length nodes → path_name (path_to names nodes n) ≡ text_of names (name_at nodes n)
path_name-to names nodes formed n h =
    let above = path_up (parents_of nodes) (get_or (parents_of nodes) n None) in
    ap (λ ns. path_name (map (own_at names nodes) (reverse ns))) (path_up-from nodes formed n h)
    ∙ ap (λ ns. path_name (map (own_at names nodes) ns)) (reverse-append (n ∷ []) above)
    ∙ ap path_name (map-append (own_at names nodes) (reverse above) (n ∷ []))
    ∙ path_name-last (map (own_at names nodes) (reverse above)) (own_at names nodes n)
    ∙ own_name names nodes n h

pub held_name : (names : List (List ℕ)) (nodes : List FlatNode) → AreHeld names nodes → (n : ℕ) → n < length nodes → name_at nodes n < length names
held_name names [] held n h = absurd (omega arith)
held_name names (node ∷ nodes) held zero h = (All-head (IsHeldNode names) node nodes held).own
held_name names (node ∷ nodes) held (suc n) h = held_name names nodes (All-tail (IsHeldNode names) node nodes held) n (omega arith)

-- ---- namesakes

count_by-cons : {X : Type 0} (p : X → Bool) (x : X) (xs : List X) → count_by p (x ∷ xs) ≡ cond (p x) 1 0 + count_by p xs
count_by-cons p x xs = count_by-append p (x ∷ []) xs ∙ ap (λ n. n + count_by p xs) (zero_add (cond (p x) 1 0))
  where
    zero_add : (n : ℕ) → 0 + n ≡ n
    zero_add n = omega arith

count_by-map : {X Y : Type 0} (p : Y → Bool) (f : X → Y) (xs : List X) → count_by p (map f xs) ≡ count_by (λ x. p (f x)) xs
count_by-map p f [] = refl
count_by-map p f (x ∷ xs) = count_by-cons p (f x) (map f xs) ∙ ap (λ n. cond (p (f x)) 1 0 + n) (count_by-map p f xs) ∙ sym (count_by-cons (λ y. p (f y)) x xs)

count_by-same : {X : Type 0} (p q : X → Bool) (P : X → Type 0) → ((x : X) → P x → p x ≡ q x) → (xs : List X) → All P xs → count_by p xs ≡ count_by q xs
count_by-same p q P same [] all = refl
count_by-same p q P same (x ∷ xs) all =
    count_by-cons p x xs
    ∙ ap (λ b. cond b 1 0 + count_by p xs) (same x (All-head P x xs all))
    ∙ ap (λ n. cond (q x) 1 0 + n) (count_by-same p q P same xs (All-tail P x xs all))
    ∙ sym (count_by-cons q x xs)

-- the paths of a name are those of its number
pub namesakes-sakes : (names : List (List ℕ)) (nodes : List FlatNode) (ends : List ℕ) → AreNames names → AreHeld names nodes → AreNodes nodes → All (λ n. n < length nodes) ends
    → (name : ℕ) → name < length names → namesakes (text_of names name) (map (path_to names nodes) ends) ≡ sakes (end_names nodes ends) name
namesakes-sakes names nodes ends are held formed within name ha =
    count_by-map (λ path. bytes_eq (text_of names name) (path_name path)) (path_to names nodes) ends
    ∙ count_by-same (λ n. bytes_eq (text_of names name) (path_name (path_to names nodes n))) (λ n. name_at nodes n == name) (λ n. n < length nodes) each ends within
    ∙ sym (count_by-map (λ other. other == name) (name_at nodes) ends)
  where
    each : (n : ℕ) → n < length nodes → bytes_eq (text_of names name) (path_name (path_to names nodes n)) ≡ (name_at nodes n == name)
    each n h = ap (bytes_eq (text_of names name)) (path_name-to names nodes formed n h) ∙ text_eq names name (name_at nodes n) are ha (held_name names nodes held n h)

-- ---- how many leaves come before each node

abbrev pub counts_before : List FlatNode → ℕ → List ℕ
counts_before nodes n = map (leaves_before nodes) (range_with_len 0 n)

pub before_step : (nodes : List FlatNode) (before new : List ℕ) (n count : ℕ) (items : List NodeId)
    → before ≡ counts_before nodes n → map (λ m. m.0) items ≡ filter (has_kind is_leaf nodes) (range_with_len 0 n) → count ≡ length items → new ≡ before ++ count ∷ [] → new ≡ counts_before nodes (n + 1)
before_step nodes before new n count items are kept is put =
    let here : count ≡ leaves_before nodes n = is ∙ sym (length-map items (λ (m : NodeId). m.0)) ∙ ap length kept in
    put ∙ ap (λ ns. ns ++ count ∷ []) are ∙ ap (λ k. counts_before nodes n ++ k ∷ []) here ∙ sym (map-range_with_len_more (leaves_before nodes) 0 n n (omega arith))

pub parent_below : (o : Option NodeId) (parent : Option ℕ) (n m : ℕ) → option_map (λ p. p.0) o ≡ parent → IfSome parent (λ p. p < n) → n < m → IfSome o (λ p. p.0 < m)
parent_below None parent n m same low within = tt
parent_below (Some p) None n m same low within = absurd (cc)
parent_below (Some p) (Some q) n m same low within = let is : p.0 ≡ q = cc in omega arith

counted_leaf : (nodes : List FlatNode) (before : List ℕ) (o : Option NodeId) (n : ℕ) → before ≡ counts_before nodes (length nodes) → IfSome o (λ p. p.0 < length nodes) → counted_above before (option_map (λ p. p.0) o) ≡ leaf_number nodes (option_map (λ p. p.0) o)
counted_leaf nodes before None n are low = refl
counted_leaf nodes before (Some p) n are low = ap (λ ns. get_or ns p.0 0) are ∙ get_or-map-range_with_len (leaves_before nodes) 0 (length nodes) p.0 p.0 0 low (omega arith)

-- the leaf above a node, by the counts
pub counted-above : (nodes : List FlatNode) (before : List ℕ) (n : ℕ) (node : FlatNode) (o : Option NodeId) → before ≡ counts_before nodes (length nodes) → slice_get nodes n ≡ Some node
    → option_map (λ p. p.0) o ≡ node.parent → IfSome node.parent (λ p. p < n) → counted_above before (option_map (λ p. p.0) o) ≡ leaf_above nodes n
counted-above nodes before n node o are at parent low =
    counted_leaf nodes before o n are (parent_below o node.parent n (length nodes) parent low (slice_get_within nodes n node at))
    ∙ ap (leaf_number nodes) (parent ∙ sym (parent-at nodes n node at))
