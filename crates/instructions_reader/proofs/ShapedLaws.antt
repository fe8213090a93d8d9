-- The nodes of an arena stand where those of its tree may, and have names like these.
use Rattle.std.proofs.Common.{◌≡◌, ◌≢◌, ◌∙◌, ◌⊎◌, inl, inr, sym, ap, refl, subst, ℕ, ◌+◌, ◌<◌, true, List, [], ◌∷◌, ◌++◌, length, map, drop, Option, Some, None, IfSome, option_map, option_and_then, All, append-nil, append_assoc}
use Rattle.std.specs.Prelude.{slice_get}
use Rattle.std.specs.List.{AllByRecursion}
use Rattle.std.proofs.ByRecursion as rec
use Rattle.std.proofs.lemmas.Option.{slice_get-map}
use Rattle.std.proofs.lemmas.List.Elements.{All-from_recursion, All-head, All-tail}
use Rattle.spec_instructions.specs.Kind as kind
use Rattle.spec_instructions.specs.Kind.{Kind, kinds_in}
use Rattle.spec_instructions.specs.Encodeset.{is_field_name}
use Rattle.spec_instructions.specs.Tree.{Node, node, Nodes, no_nodes, more}
use Rattle.spec_instructions.specs.Shape.{IsAmong, MayStand, node_kind, IsShaped, AreShaped, IsSoundItem, IsSoundOwn, IsSound, AreSound, IsSetTree}
use Rattle.mrs_arena.specs.declared.kind.Kind as arena
use Rattle.mrs_arena.specs.declared.kind.Kind.TheVariants as variant
use Rattle.mrs_arena.specs.Flat.{FlatItem, FlatNode}
use Rattle.mrs_arena.specs.Placed.{text_of, item_of, kind_of, Placed, placed_node, preorder, preorders, IsTree, IsHeldItem, IsHeldNode, AreHeld}
use Rattle.mrs_arena.specs.Release.{kind_at, kind_above, StandsBelow, IsFieldName, HasNames, IsRelease}
use Rattle.mrs_arena.proofs.TreePaths.{get_next, drop_next, drop_past}

-- ---- kinds

abbrev kind_in : List Placed → ℕ → Option Kind
kind_in ps n = option_map (λ p. p.own.kind) (slice_get ps n)

-- below what a placed_node node of a kind stands
abbrev IsBelow : Option Kind → Kind → Type 0
IsBelow above kind.Set = ⊥
IsBelow above kind.Group = (above ≡ Some kind.Set) ⊎ (above ≡ Some kind.Group)
IsBelow above kind.Leaf = (above ≡ Some kind.Set) ⊎ (above ≡ Some kind.Group)
IsBelow above kind.Alias = above ≡ Some kind.Leaf
IsBelow above kind.Instance = ⊥

may_be_below : (k j : Kind) → MayStand (kinds_in k) j → IsBelow (Some k) j
may_be_below k j may = go k j may.among may.is_node
  where
    go : (k j : Kind) → IsAmong j (kinds_in k) → j ≢ kind.Instance → IsBelow (Some k) j
    go kind.Set j (inl is) is_node = subst (IsBelow (Some kind.Set)) (sym is) (inl refl)
    go kind.Set j (inr (inl is)) is_node = subst (IsBelow (Some kind.Set)) (sym is) (inl refl)
    go kind.Set j (inr (inr (inl is))) is_node = absurd (is_node is)
    go kind.Set j (inr (inr (inr none))) is_node = absurd none
    go kind.Group j (inl is) is_node = subst (IsBelow (Some kind.Group)) (sym is) (inr refl)
    go kind.Group j (inr (inl is)) is_node = subst (IsBelow (Some kind.Group)) (sym is) (inr refl)
    go kind.Group j (inr (inr (inl is))) is_node = absurd (is_node is)
    go kind.Group j (inr (inr (inr none))) is_node = absurd none
    go kind.Leaf j (inl is) is_node = subst (IsBelow (Some kind.Leaf)) (sym is) refl
    go kind.Leaf j (inr (inl is)) is_node = absurd (is_node is)
    go kind.Leaf j (inr (inr none)) is_node = absurd none
    go kind.Alias j none is_node = absurd none
    go kind.Instance j none is_node = absurd none

abbrev Stands : List Placed → Placed → Type 0
Stands ps p = IsBelow (option_and_then (kind_in ps) p.parent) p.own.kind

mutual
  -- the nodes of a tree below node p, of which the first has number n among all nodes
  stands_one : (ps : List Placed) (p : ℕ) (k : Kind) (n : ℕ) (tree : Node) (after : List Placed) → drop n ps ≡ preorder (Some p) n tree ++ after → kind_in ps p ≡ Some k → MayStand (kinds_in k) (node_kind tree) → IsShaped tree
      → AllByRecursion (Stands ps) (preorder (Some p) n tree)
  stands_one ps p k n (node own kids) after e above may shaped =
      let rest = preorders (Some n) (n + 1) kids ++ after in
      let here : kind_in ps n ≡ Some own.kind = ap (option_map (λ p. p.own.kind)) (get_next ps n (record { parent = Some p; own = own }) rest e) in (
        subst (λ (o : Option Kind). IsBelow o own.kind) (sym above) (may_be_below k own.kind may),
        stands_all ps n own.kind (n + 1) kids after (drop_next ps n (record { parent = Some p; own = own }) rest e) here shaped,
      )

  stands_all : (ps : List Placed) (p : ℕ) (k : Kind) (n : ℕ) (trees : Nodes) (after : List Placed) → drop n ps ≡ preorders (Some p) n trees ++ after → kind_in ps p ≡ Some k → AreShaped (kinds_in k) trees
      → AllByRecursion (Stands ps) (preorders (Some p) n trees)
  stands_all ps p k n no_nodes after e above shaped = tt
  stands_all ps p k n (more t ts) after e above shaped =
      let first = preorder (Some p) n t in
      let next = n + length first in
      let later = preorders (Some p) next ts in
      let split = e ∙ append_assoc first later after in
      rec.All-append (Stands ps) first later (stands_one ps p k n t (later ++ after) split above shaped.0 shaped.1.0)
      (stands_all ps p k next ts after (drop_past ps n first (later ++ after) split) above shaped.1.1)

-- ---- names

mutual
  sound_one : (parent : Option ℕ) (n : ℕ) (tree : Node) → IsSound tree → AllByRecursion (λ p. IsSoundOwn p.own) (preorder parent n tree)
  sound_one parent n (node own kids) sound = (sound.0, sound_all (Some n) (n + 1) kids sound.1)

  sound_all : (parent : Option ℕ) (n : ℕ) (trees : Nodes) → AreSound trees → AllByRecursion (λ p. IsSoundOwn p.own) (preorders parent n trees)
  sound_all parent n no_nodes sound = tt
  sound_all parent n (more t ts) sound =
      rec.All-append (λ p. IsSoundOwn p.own) (preorder parent n t) (preorders parent (n + length (preorder parent n t)) ts) (sound_one parent n t sound.0)
      (sound_all parent (n + length (preorder parent n t)) ts sound.1)

field_named : (names : List (List ℕ)) (name : Option ℕ) → IfSome name (λ id. id < length names) → IfSome (option_map (text_of names) name) (λ s. is_field_name s ≡ true) → IfSome name (λ id. (id < length names) × (is_field_name (text_of names id) ≡ true))
field_named names None held is = tt
field_named names (Some id) held is = (held, is)

fields_named : (names : List (List ℕ)) (items : List FlatItem) → All (IsHeldItem names) items → AllByRecursion IsSoundItem (map (item_of names) items) → AllByRecursion (IsFieldName names) items
fields_named names [] held sound = tt
fields_named names (it ∷ items) held sound =
    let first : IsSoundItem (item_of names it) = sound.0 in
    (field_named names it.name (All-head (IsHeldItem names) it items held) first.name, fields_named names items (All-tail (IsHeldItem names) it items held) sound.1)

all_named : (names : List (List ℕ)) (nodes : List FlatNode) → AreHeld names nodes → AllByRecursion (λ p. IsSoundOwn p.own) (map (placed_node names) nodes) → AllByRecursion (HasNames names) nodes
all_named names [] held sound = tt
all_named names (x ∷ nodes) held sound =
    let first : IsHeldNode names x = All-head (IsHeldNode names) x nodes held in
    let own : IsSoundOwn (placed_node names x).own = sound.0 in (
      record { own = (first.own, own.name); items = All-from_recursion (IsFieldName names) x.items (fields_named names x.items first.items own.items) },
      all_named names nodes (All-tail (IsHeldNode names) x nodes held) sound.1,
    )

-- ---- nodes of an arena as placed_node nodes

abbrev back : Kind → Option arena.Kind
back kind.Set = Some variant.Set
back kind.Group = Some variant.Group
back kind.Leaf = Some variant.Leaf
back kind.Alias = Some variant.Alias
back kind.Instance = None

back-kind_of : (k : arena.Kind) → back (kind_of k) ≡ Some k
back-kind_of variant.Set = refl
back-kind_of variant.Group = refl
back-kind_of variant.Leaf = refl
back-kind_of variant.Alias = refl

-- different kinds stand for different kinds
same_kind : (o : Option arena.Kind) (k : arena.Kind) → option_map kind_of o ≡ Some (kind_of k) → o ≡ Some k
same_kind None k e = absurd cc
same_kind (Some j) k e = let same : kind_of j ≡ kind_of k = cc in sym (back-kind_of j) ∙ ap back same ∙ back-kind_of k

stands_so : (o : Option arena.Kind) (k : arena.Kind) → IsBelow (option_map kind_of o) (kind_of k) → StandsBelow o k
stands_so o variant.Set below = below
stands_so o variant.Group (inl is) = inl (same_kind o variant.Set is)
stands_so o variant.Group (inr is) = inr (same_kind o variant.Group is)
stands_so o variant.Leaf (inl is) = inl (same_kind o variant.Set is)
stands_so o variant.Leaf (inr is) = inr (same_kind o variant.Group is)
stands_so o variant.Alias is = same_kind o variant.Leaf is

kind_found : (names : List (List ℕ)) (o : Option FlatNode) → option_map (λ p. p.own.kind) (option_map (placed_node names) o) ≡ option_map kind_of (option_map (λ x. x.kind) o)
kind_found names None = refl
kind_found names (Some x) = refl

kind_placed : (names : List (List ℕ)) (nodes : List FlatNode) (parent : Option ℕ) → option_and_then (kind_in (map (placed_node names) nodes)) parent ≡ option_map kind_of (option_and_then (kind_at nodes) parent)
kind_placed names nodes None = refl
kind_placed names nodes (Some n) = ap (option_map (λ p. p.own.kind)) (slice_get-map (placed_node names) nodes n) ∙ kind_found names (slice_get nodes n)

all_stand : (names : List (List ℕ)) (nodes some : List FlatNode) → AllByRecursion (Stands (map (placed_node names) nodes)) (map (placed_node names) some) → AllByRecursion (λ x. StandsBelow (kind_above nodes x) x.kind) some
all_stand names nodes [] below = tt
all_stand names nodes (x ∷ some) below = (
  stands_so (kind_above nodes x) x.kind (subst (λ (o : Option Kind). IsBelow o (kind_of x.kind)) (kind_placed names nodes x.parent) below.0),
  all_stand names nodes some below.1,
)

-- ---- the whole tree

pub release_of_tree : (names : List (List ℕ)) (nodes : List FlatNode) (set : Node) → IsTree names nodes set → IsSetTree set → AreHeld names nodes → IsRelease names nodes
release_of_tree names [] (node own kids) is tree held = absurd cc
release_of_tree names (x ∷ nodes) (node own kids) is tree held =
    let ps : List Placed = map (placed_node names) (x ∷ nodes) in
    let whole : List Placed = preorder None 0 (node own kids) in
    let below = stands_all whole 0 own.kind 1 kids [] (sym (append-nil (preorders (Some 0) 1 kids))) refl tree.shaped in
    let rest : map (placed_node names) nodes ≡ preorders (Some 0) 1 kids = ap (drop 1) is in
    let set_first : kind_of x.kind ≡ kind.Set = let same : (placed_node names x).own.kind ≡ own.kind = cc in same ∙ tree.root in
    record {
      first = same_kind (Some x.kind) variant.Set (ap Some set_first);
      others = All-from_recursion (λ y. StandsBelow (kind_above (x ∷ nodes) y) y.kind) nodes
          (all_stand names (x ∷ nodes) nodes (subst (λ (qs : List Placed). AllByRecursion (Stands qs) (map (placed_node names) nodes)) (sym is) (subst (λ (qs : List Placed). AllByRecursion (Stands whole) qs) (sym rest) below)));
      named = All-from_recursion (HasNames names) (x ∷ nodes) (all_named names (x ∷ nodes) held (subst (AllByRecursion (λ p. IsSoundOwn p.own)) (sym is) (sound_one None 0 (node own kids) tree.sound)));
    }
