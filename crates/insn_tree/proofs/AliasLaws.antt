-- The aliases of an arena: their paths, what their own items fix, and the leaves above them.
use Rattle.std.proofs.Common.{◌≡◌, ◌∙◌, sym, ap, refl, subst, ℕ, zero, suc, ◌+◌, ◌-◌, ◌<◌, ◌≤◌, ◌==◌, Bool, true, false, cond, List, [], ◌∷◌, ◌++◌, length, map, filter, reverse, drop, get_or, slice_get, Option, Some, None, IfSome, option_map, unwrap_or, All, arith, length-append, ◌⊎◌, inl, inr}
use Rattle.std.specs.Prelude.{slice_index_or}
use Rattle.std.specs.List.{range_with_len, list_all, position_from, drop-map}
use Rattle.std.proofs.lemmas.Bool.{cases_lt}
use Rattle.std.proofs.lemmas.List.{get_or-map, map-append, reverse-append}
use Rattle.std.proofs.lemmas.List.Elements.{All-head, All-tail, All-map}
use Rattle.std.proofs.lemmas.Option.{slice_get_within, slice_get_past}
use Rattle.spec_bits.specs.Item.{item_holds}
use Rattle.spec_instructions.specs.Aliases.{AliasPath, alias_path, alias_paths}
use Rattle.spec_decode.proofs.HoldLaws.{joined-all}
use Rattle.mrs_arena.specs.declared.kind.Kind.{Kind}
use Rattle.mrs_arena.specs.Flat.{FlatNode}
use Rattle.mrs_arena.specs.Paths.{path_up}
use Rattle.mrs_arena.specs.Nodes.{parents_of, node_items}
use Rattle.mrs_arena.specs.Formed.{AreNodes, IsItem}
use Rattle.mrs_arena.specs.Limits.{is_leaf, is_alias}
use Rattle.mrs_arena.specs.Placed.{item_of, own_at, path_to, has_kind, leaves_of, aliases_of}
use Rattle.mrs_arena.proofs.NodeLaws.{length-parents_of}
use Rattle.mrs_arena.proofs.PreorderLaws.{IsPreorder-parent}
use Rattle.insn_tree.specs.Conditions.{path_above}
use Rattle.insn_tree.specs.Leaves.{leaves_before, leaf_number, leaf_above}
use Rattle.insn_tree.specs.Aliases.{alias_by, aliases_by, no_alias, alias_from}
use Rattle.insn_tree.specs.Chains.{alias_leaves, next_from}
use Rattle.insn_tree.specs.Words.{own_merged_at}
use Rattle.insn_tree.specs.Trees.{IsLeafNumber}
use Rattle.insn_tree.proofs.ListLaws.{map-twice}
use Rattle.insn_tree.proofs.RangeLaws.{keeps_suc, rank}
use Rattle.insn_tree.proofs.UpwardLaws.{formed_items}
use Rattle.insn_tree.proofs.WordLaws.{joined-onto}
use Rattle.insn_tree.proofs.HoldLaws.{holds_of, fit_items}
use Rattle.insn_tree.proofs.LeafLaws.{kept_within, path_up-from}

-- ---- paths

map-same : {X Y : Type 0} (f g : X → Y) (P : X → Type 0) → ((x : X) → P x → f x ≡ g x) → (xs : List X) → All P xs → map f xs ≡ map g xs
map-same f g P same [] all = refl
map-same f g P same (x ∷ xs) all = ap (λ y. y ∷ map f xs) (same x (All-head P x xs all)) ∙ ap (λ ys. g x ∷ ys) (map-same f g P same xs (All-tail P x xs all))

above-up : (names : List (List ℕ)) (nodes : List FlatNode) (parent : Option ℕ) → map (own_at names nodes) (reverse (path_up (parents_of nodes) parent)) ≡ path_above names nodes parent
above-up names nodes None = refl
above-up names nodes (Some p) = refl

-- the path of an alias is that to its node
pub alias_path-is : (names : List (List ℕ)) (nodes : List FlatNode) → AreNodes nodes → (n : ℕ) → n < length nodes → alias_path (alias_by names nodes n) ≡ path_to names nodes n
alias_path-is names nodes formed n within =
    let parent = get_or (parents_of nodes) n None in
    let up = path_up (parents_of nodes) parent in
    sym (ap (λ ns. map (own_at names nodes) (reverse ns)) (path_up-from nodes formed n within)
    ∙ ap (map (own_at names nodes)) (reverse-append (n ∷ []) up)
    ∙ map-append (own_at names nodes) (reverse up) (n ∷ [])
    ∙ ap (λ above. above ++ own_at names nodes n ∷ []) (above-up names nodes parent))

pub alias_paths-are : (names : List (List ℕ)) (nodes : List FlatNode) → AreNodes nodes → alias_paths (aliases_by names nodes) ≡ map (path_to names nodes) (aliases_of nodes)
alias_paths-are names nodes formed =
    map-twice (alias_by names nodes) alias_path (aliases_of nodes)
    ∙ map-same (λ n. alias_path (alias_by names nodes n)) (path_to names nodes) (λ n. n < length nodes) (alias_path-is names nodes formed) (aliases_of nodes) (kept_within is_alias nodes)

module _ (names : List (List ℕ)) (nodes : List FlatNode) (a : ℕ) (within : a < length (aliases_of nodes)) where
  pub alias-at : slice_index_or (aliases_by names nodes) a no_alias ≡ alias_by names nodes (get_or (aliases_of nodes) a 0)
  alias-at = get_or-map (alias_by names nodes) (aliases_of nodes) a 0 no_alias within

  -- the path of alias a
  pub path-alias : AreNodes nodes → alias_path (slice_index_or (aliases_by names nodes) a no_alias) ≡ path_to names nodes (get_or (aliases_of nodes) a 0)
  path-alias formed = ap alias_path alias-at ∙ alias_path-is names nodes formed (get_or (aliases_of nodes) a 0) (kept_within is_alias nodes a 0 within)

-- ---- an alias's own items

own_items : (names : List (List ℕ)) (nodes : List FlatNode) (n : ℕ) → (own_at names nodes n).items ≡ map (item_of names) (node_items nodes n)
own_items names [] n = refl
own_items names (node ∷ nodes) zero = refl
own_items names (node ∷ nodes) (suc n) = own_items names nodes n

formed_at : (nodes : List FlatNode) (n : ℕ) → All (λ node. All IsItem node.items) nodes → All IsItem (node_items nodes n)
formed_at [] n all = All-nil-items
  where
    All-nil-items : All IsItem []
    All-nil-items k d h = absurd (omega (arith, h))
formed_at (node ∷ nodes) zero all = All-head (λ node. All IsItem node.items) node nodes all
formed_at (node ∷ nodes) (suc n) all = formed_at nodes n (All-tail (λ node. All IsItem node.items) node nodes all)

-- they hold where what they fix together does
pub own-holds : (names : List (List ℕ)) (nodes : List FlatNode) → AreNodes nodes → (n w : ℕ) → holds_of (own_merged_at nodes n) w ≡ list_all (λ it. item_holds it w) (own_at names nodes n).items
own-holds names nodes formed n w =
    let flat = node_items nodes n in
    ap (λ ds. holds_of ds w) (sym (joined-onto names flat))
    ∙ (joined-all w (map (item_of names) flat) (fit_items names flat (formed_at nodes n (formed_items nodes formed)))).holds
    ∙ ap (list_all (λ it. item_holds it w)) (sym (own_items names nodes n))

-- ---- the leaf above

kind_within : (is : Kind → Bool) (nodes : List FlatNode) (n : ℕ) → has_kind is nodes n ≡ true → n < length nodes
kind_within is nodes n passes = go (cases_lt n (length nodes))
  where
    go : (n < length nodes) ⊎ (length nodes ≤ n) → n < length nodes
    go (inl below) = below
    go (inr past) = absurd (let none : has_kind is nodes n ≡ false = ap (λ o. unwrap_or (option_map (λ node. is node.kind) o) false) (slice_get_past nodes n past) in cc)

pub leaf_of_parent : (nodes : List FlatNode) (o : Option ℕ) → IfSome o (λ parent. has_kind is_leaf nodes parent ≡ true → IsLeafNumber nodes parent (leaf_number nodes o))
leaf_of_parent nodes None = tt
leaf_of_parent nodes (Some p) = λ leaf. record { within = slice_get_within (leaves_of nodes) (leaves_before nodes p) p (place leaf); node = place leaf }
  where
    place : has_kind is_leaf nodes p ≡ true → slice_get (leaves_of nodes) (leaves_before nodes p) ≡ Some p
    place leaf = rank (has_kind is_leaf nodes) (length nodes) p (kind_within is_leaf nodes p leaf) leaf

kept_grow : (p : ℕ → Bool) (n more : ℕ) → length (filter p (range_with_len 0 n)) ≤ length (filter p (range_with_len 0 (n + more)))
kept_grow p n zero = let same : n + 0 ≡ n = omega arith in subst (λ k. length (filter p (range_with_len 0 n)) ≤ length (filter p (range_with_len 0 k))) (sym same) (omega arith)
kept_grow p n (suc more) =
    let one : n + suc more ≡ suc (n + more) = omega arith in
    subst (λ k. length (filter p (range_with_len 0 n)) ≤ length (filter p (range_with_len 0 k))) (sym one)
    (omega (arith, kept_grow p n more, ap (λ (ks : List ℕ). length ks) (keeps_suc p (n + more)), length-append (filter p (range_with_len 0 (n + more))) (cond (p (n + more)) ((n + more) ∷ []) [])))

few_above : (nodes : List FlatNode) (o : Option ℕ) → IfSome o (λ p. p < length nodes) → leaf_number nodes o < length (leaves_of nodes) + 1
few_above nodes None within = omega arith
few_above nodes (Some p) within =
    let more = length nodes - p in
    let all : p + more ≡ length nodes = omega (arith, within) in
    let grow : leaves_before nodes p ≤ length (filter (has_kind is_leaf nodes) (range_with_len 0 (length nodes))) = subst (λ k. leaves_before nodes p ≤ length (filter (has_kind is_leaf nodes) (range_with_len 0 k))) all (kept_grow (has_kind is_leaf nodes) p more) in
    omega (arith, grow)

parent_within : (nodes : List FlatNode) → AreNodes nodes → (n : ℕ) → n < length nodes → (o : Option ℕ) → get_or (parents_of nodes) n None ≡ o → IfSome o (λ p. p < length nodes)
parent_within nodes formed n within None is = tt
parent_within nodes formed n within (Some p) is =
    let here : n < length (parents_of nodes) = omega (arith, within, length-parents_of nodes) in
    omega (arith, within, IsPreorder-parent (parents_of nodes) n p formed.preorder here is)

-- no more leaves come before an alias's parent than there are
pub leaves_within : (nodes : List FlatNode) → AreNodes nodes → All (λ l. l < length (leaves_of nodes) + 1) (alias_leaves nodes)
leaves_within nodes formed =
    All-map (λ l. l < length (leaves_of nodes) + 1) (leaf_above nodes) (aliases_of nodes)
    (λ k d h. few_above nodes (get_or (parents_of nodes) (get_or (aliases_of nodes) k d) None) (parent_within nodes formed (get_or (aliases_of nodes) k d) (kept_within is_alias nodes k d h) (get_or (parents_of nodes) (get_or (aliases_of nodes) k d) None) refl))

-- ---- the aliases of a leaf, by the numbers of leaves

position_from-map : {X Y : Type 0} (p : Y → Bool) (f : X → Y) (i : ℕ) (xs : List X) → position_from p i (map f xs) ≡ position_from (λ x. p (f x)) i xs
position_from-map p f i [] = refl
position_from-map p f i (x ∷ xs) = ap (λ o. cond (p (f x)) (Some i) o) (position_from-map p f (i + 1) xs)

pub next-is : (names : List (List ℕ)) (nodes : List FlatNode) (l a : ℕ) → next_from (alias_leaves nodes) l a ≡ alias_from (aliases_by names nodes) l a
next-is names nodes l a =
    ap (position_from (λ k. k == l) a) (drop-map (leaf_above nodes) a (aliases_of nodes))
    ∙ position_from-map (λ k. k == l) (leaf_above nodes) a (drop a (aliases_of nodes))
    ∙ sym (ap (position_from (λ (alias : AliasPath). alias.leaf == l) a) (drop-map (alias_by names nodes) a (aliases_of nodes)) ∙ position_from-map (λ (alias : AliasPath). alias.leaf == l) (alias_by names nodes) a (drop a (aliases_of nodes)))

-- what is found stands among those that are looked at
pub position_from-within : {X : Type 0} (p : X → Bool) (i j : ℕ) (xs : List X) → position_from p i xs ≡ Some j → (i ≤ j) × (j < i + length xs)
position_from-within p i j [] is = absurd cc
position_from-within p i j (x ∷ xs) is = go (p x) is (position_from-within p (i + 1) j xs)
  where
    go : (b : Bool) → cond b (Some i) (position_from p (i + 1) xs) ≡ Some j → (position_from p (i + 1) xs ≡ Some j → (i + 1 ≤ j) × (j < i + 1 + length xs)) → (i ≤ j) × (j < i + length (x ∷ xs))
    go true e rest = let same : i ≡ j = cc e in (omega (arith, same), omega (arith, same))
    go false e rest = let h = rest e in (omega (arith, h.0), omega (arith, h.1))
