-- The aliases are those of leaves, in their order; in the tree of a document without faults they are all; and their labels tell them apart.
use Rattle.std.proofs.Common.{◌≡◌, ◌≢◌, ◌∙◌, sym, ap, refl, subst, ℕ, zero, suc, ◌+◌, ◌<◌, ◌≤◌, Bool, true, false, cond, List, [], ◌∷◌, ◌++◌, length, map, filter, Some, arith, inl, inr}
use Rattle.std.specs.Prelude.{slice_get, AllPairs, ⊤}
use Rattle.std.specs.List.{AllByRecursion}
use Rattle.std.proofs.lemmas.List.{map-append, length-map}
use Rattle.std.proofs.lemmas.List.Elements.{All-from_recursion, All-map}
use Rattle.std.proofs.lemmas.List.Kept.{AllPairs-cons}
use Rattle.spec_instructions.specs.Name.{is_name}
use Rattle.spec_instructions.specs.Kind.{Kind, Set, Group, Leaf, Alias, Instance, kinds_in}
use Rattle.spec_instructions.specs.Tree.{Own, Node, node, Nodes, no_nodes, more}
use Rattle.spec_instructions.specs.Shape.{MayStand, node_kind, IsShaped, AreShaped, IsSound, AreSound}
use Rattle.spec_instructions.specs.Paths.{paths_at, paths_from, paths_among, path_name}
use Rattle.spec_instructions.specs.Aliases.{AliasPath, alias_path, alias_paths, with_alias, leaf_aliases, aliases_at, aliases_from, aliases_among, aliases_in, IsBelowLeaf, AliasesAreBelowLeaves, owns_of, owns_among, is_alias, AliasesAreAll, LabelsTellAliases}
use Rattle.spec_instructions.proofs.LabelLaws.{labels_tell_leaves}

-- ---- elements of lists that are joined

get-first : {X : Type 0} (xs ys : List X) (m : ℕ) (x : X) → slice_get xs m ≡ Some x → slice_get (xs ++ ys) m ≡ Some x
get-first [] ys m x e = absurd cc
get-first (y ∷ xs) ys zero x e = e
get-first (y ∷ xs) ys (suc m) x e = get-first xs ys m x e

get-second : {X : Type 0} (xs ys : List X) (m : ℕ) (x : X) → slice_get ys m ≡ Some x → slice_get (xs ++ ys) (length xs + m) ≡ Some x
get-second [] ys m x e = let same : 0 + m ≡ m = omega arith in ap (slice_get ys) same ∙ e
get-second (y ∷ xs) ys m x e = let same : suc (length xs) + m ≡ suc (length xs + m) = omega arith in ap (slice_get (y ∷ (xs ++ ys))) same ∙ get-second xs ys m x e

get-within : {X : Type 0} (xs : List X) (m : ℕ) (x : X) → slice_get xs m ≡ Some x → m < length xs
get-within [] m x e = absurd cc
get-within (y ∷ xs) zero x e = omega arith
get-within (y ∷ xs) (suc m) x e = omega (arith, get-within xs m x e)

all-append : {X : Type 0} (P : X → Type 0) (xs ys : List X) → AllByRecursion P xs → AllByRecursion P ys → AllByRecursion P (xs ++ ys)
all-append P [] ys hx hy = hy
all-append P (x ∷ xs) ys hx hy = (hx.0, all-append P xs ys hx.1 hy)

all-weaker : {X : Type 0} (P Q : X → Type 0) → ((x : X) → P x → Q x) → (xs : List X) → AllByRecursion P xs → AllByRecursion Q xs
all-weaker P Q step [] h = tt
all-weaker P Q step (x ∷ xs) h = (step x h.0, all-weaker P Q step xs h.1)

-- ---- each alias is one of a leaf

-- an alias of one of these leaves, of which the first has number k
record IsBelowFrom (k : ℕ) (paths : List (List Own)) (a : AliasPath) : Type 0 where
  m : ℕ
  number : a.leaf ≡ k + m
  at : slice_get paths m ≡ Some a.above
  is_alias : a.own.kind ≡ Alias

of_leaf : (k : ℕ) (path : List Own) (kids : Nodes) → AllByRecursion (IsBelowFrom k (path ∷ [])) (leaf_aliases k path kids)
of_leaf k path no_nodes = tt
of_leaf k path (more (node own kids) ns) = go own.kind refl (of_leaf k path ns)
  where
    go : (kind : Kind) → own.kind ≡ kind → AllByRecursion (IsBelowFrom k (path ∷ [])) (leaf_aliases k path ns)
        → AllByRecursion (IsBelowFrom k (path ∷ [])) (with_alias kind (record { leaf = k; above = path; own = own }) (leaf_aliases k path ns))
    go Alias e rest = (record { m = 0; number = omega arith; at = refl; is_alias = e }, rest)
    go Set e rest = rest
    go Group e rest = rest
    go Leaf e rest = rest
    go Instance e rest = rest

below_at : (kind : Kind) (k : ℕ) (path : List Own) (below : List (List Own)) (own others : List AliasPath) → AllByRecursion (IsBelowFrom k (path ∷ [])) own → AllByRecursion (IsBelowFrom k below) others
    → AllByRecursion (IsBelowFrom k (paths_at kind path below)) (aliases_at kind own others)
below_at Leaf k path below own others here there = here
below_at Set k path below own others here there = there
below_at Group k path below own others here there = there
below_at Alias k path below own others here there = tt
below_at Instance k path below own others here there = tt

mutual
  below_from : (above : List Own) (k : ℕ) (n : Node) → AllByRecursion (IsBelowFrom k (paths_from above n)) (aliases_from above k n)
  below_from above k (node own kids) =
      let path = above ++ own ∷ [] in
      below_at own.kind k path (paths_among path kids) (leaf_aliases k path kids) (aliases_among path k kids) (of_leaf k path kids) (below_among path k kids)

  below_among : (above : List Own) (k : ℕ) (ns : Nodes) → AllByRecursion (IsBelowFrom k (paths_among above ns)) (aliases_among above k ns)
  below_among above k no_nodes = tt
  below_among above k (more n ns) =
      let here = paths_from above n in
      let there = paths_among above ns in
      all-append (IsBelowFrom k (here ++ there)) (aliases_from above k n) (aliases_among above (k + length here) ns)
      (all-weaker (IsBelowFrom k here) (IsBelowFrom k (here ++ there)) (λ a h. record { m = h.m; number = h.number; at = get-first here there h.m a.above h.at; is_alias = h.is_alias }) (aliases_from above k n) (below_from above k n))
      (all-weaker (IsBelowFrom (k + length here) there) (IsBelowFrom k (here ++ there)) (λ a h. record { m = length here + h.m; number = omega (arith, h.number); at = get-second here there h.m a.above h.at; is_alias = h.is_alias })
      (aliases_among above (k + length here) ns) (below_among above (k + length here) ns))

-- ---- in the order of their leaves

-- from a number on, no alias is one of a leaf before that of the alias before it
abbrev Rises : ℕ → List AliasPath → Type 0
Rises low [] = ⊤
Rises low (a ∷ aliases) = (low ≤ a.leaf) × Rises a.leaf aliases

rises-lower : (low high : ℕ) (xs : List AliasPath) → low ≤ high → Rises high xs → Rises low xs
rises-lower low high [] le h = tt
rises-lower low high (a ∷ xs) le h = (omega (arith, h.0), h.1)

rises-append : (low high : ℕ) (xs ys : List AliasPath) → low ≤ high → Rises low xs → AllByRecursion (λ a. a.leaf ≤ high) xs → Rises high ys → Rises low (xs ++ ys)
rises-append low high [] ys le ha below hb = rises-lower low high ys le hb
rises-append low high (a ∷ xs) ys le ha below hb = (ha.0, rises-append a.leaf high xs ys below.0 ha.1 below.1 hb)

rises_of_leaf : (k : ℕ) (path : List Own) (kids : Nodes) → Rises k (leaf_aliases k path kids)
rises_of_leaf k path no_nodes = tt
rises_of_leaf k path (more (node own kids) ns) = go own.kind (rises_of_leaf k path ns)
  where
    go : (kind : Kind) → Rises k (leaf_aliases k path ns) → Rises k (with_alias kind (record { leaf = k; above = path; own = own }) (leaf_aliases k path ns))
    go Alias rest = (omega arith, rest)
    go Set rest = rest
    go Group rest = rest
    go Leaf rest = rest
    go Instance rest = rest

rises_at : (kind : Kind) (k : ℕ) (own others : List AliasPath) → Rises k own → Rises k others → Rises k (aliases_at kind own others)
rises_at Leaf k own others here there = here
rises_at Set k own others here there = there
rises_at Group k own others here there = there
rises_at Alias k own others here there = tt
rises_at Instance k own others here there = tt

mutual
  rises_from : (above : List Own) (k : ℕ) (n : Node) → Rises k (aliases_from above k n)
  rises_from above k (node own kids) = rises_at own.kind k (leaf_aliases k (above ++ own ∷ []) kids) (aliases_among (above ++ own ∷ []) k kids) (rises_of_leaf k (above ++ own ∷ []) kids) (rises_among (above ++ own ∷ []) k kids)

  rises_among : (above : List Own) (k : ℕ) (ns : Nodes) → Rises k (aliases_among above k ns)
  rises_among above k no_nodes = tt
  rises_among above k (more n ns) =
      let here = paths_from above n in
      rises-append k (k + length here) (aliases_from above k n) (aliases_among above (k + length here) ns) (omega arith) (rises_from above k n)
      (all-weaker (IsBelowFrom k here) (λ a. a.leaf ≤ k + length here) (λ a h. omega (arith, h.number, get-within here h.m a.above h.at)) (aliases_from above k n) (below_from above k n))
      (rises_among above (k + length here) ns)

abbrev NotAfter : AliasPath → AliasPath → Type 0
NotAfter first second = first.leaf ≤ second.leaf

rises-all : (low : ℕ) (xs : List AliasPath) → Rises low xs → AllByRecursion (λ a. low ≤ a.leaf) xs
rises-all low [] h = tt
rises-all low (a ∷ xs) h = (h.0, all-weaker (λ b. a.leaf ≤ b.leaf) (λ b. low ≤ b.leaf) (λ b le. omega (arith, h.0)) xs (rises-all a.leaf xs h.1))

rises-pairs : (low : ℕ) (xs : List AliasPath) → Rises low xs → AllPairs NotAfter xs
rises-pairs low [] h = λ i k d lt within. absurd (omega arith)
rises-pairs low (a ∷ xs) h = AllPairs-cons NotAfter a xs (All-from_recursion _ _ (rises-all a.leaf xs h.1)) (rises-pairs a.leaf xs h.1)

pub aliases_are_below_leaves : AliasesAreBelowLeaves
aliases_are_below_leaves set = record {
  each = All-from_recursion _ _ (all-weaker (IsBelowFrom 0 (paths_from [] set)) (IsBelowLeaf (paths_from [] set)) (λ a h. let same : a.leaf ≡ h.m = omega (arith, h.number) in record { at = ap (slice_get (paths_from [] set)) same ∙ h.at; is_alias = h.is_alias }) (aliases_in set) (below_from [] 0 set));
  order = rises-pairs 0 (aliases_in set) (rises_from [] 0 set);
}

-- ---- they are all

abbrev aliases_among_owns : List Own → List Own
aliases_among_owns owns = filter (λ own. is_alias own.kind) owns

abbrev owns : List AliasPath → List Own
owns aliases = map (λ a. a.own) aliases

filter-append : (xs ys : List Own) → aliases_among_owns (xs ++ ys) ≡ aliases_among_owns xs ++ aliases_among_owns ys
filter-append [] ys = refl
filter-append (x ∷ xs) ys = go (is_alias x.kind) (filter-append xs ys)
  where
    go : (b : Bool) → aliases_among_owns (xs ++ ys) ≡ aliases_among_owns xs ++ aliases_among_owns ys
        → cond b (x ∷ aliases_among_owns (xs ++ ys)) (aliases_among_owns (xs ++ ys)) ≡ cond b (x ∷ aliases_among_owns xs) (aliases_among_owns xs) ++ aliases_among_owns ys
    go true e = ap (λ l. x ∷ l) e
    go false e = e

-- nothing stands where no kind may, and below a leaf stand aliases alone
none_shaped : (kids : Nodes) → AreShaped [] kids → kids ≡ no_nodes
none_shaped no_nodes shaped = refl
none_shaped (more n ns) shaped = absurd shaped.0.among

only_alias : (k : Kind) → MayStand (kinds_in Leaf) k → k ≡ Alias
only_alias k h = elim h.among [
  | inl alias ↦ alias
  | inr (inl instance) ↦ absurd (h.is_node instance)
  | inr (inr none) ↦ absurd none
]

whole_leaf : (k : ℕ) (path : List Own) (kids : Nodes) → AreShaped (kinds_in Leaf) kids → owns (leaf_aliases k path kids) ≡ aliases_among_owns (owns_among kids)
whole_leaf k path no_nodes shaped = refl
whole_leaf k path (more (node own kids) ns) shaped =
    let alias = only_alias own.kind shaped.0 in
    let none = none_shaped kids (subst (λ j. AreShaped (kinds_in j) kids) alias shaped.1.0) in
    let after = leaf_aliases k path ns in
    let rest = aliases_among_owns (owns_among ns) in
    ap (λ j. owns (with_alias j (record { leaf = k; above = path; own = own }) after)) alias
    ∙ ap (λ l. own ∷ l) (whole_leaf k path ns shaped.1.1)
    ∙ ap (λ j. cond (is_alias j) (own ∷ rest) rest) (sym alias)
    ∙ ap (λ l. cond (is_alias own.kind) (own ∷ aliases_among_owns (owns_among l ++ owns_among ns)) (aliases_among_owns (owns_among l ++ owns_among ns))) (sym none)

-- nodes that have leaves at or below them
abbrev IsAbove : Kind → Type 0
IsAbove k = (k ≢ Alias) × (k ≢ Instance)

above_one : (k : Kind) → MayStand (kinds_in Group) k → IsAbove k
above_one k h = elim h.among [
  | inl group ↦ (λ e. absurd cc, λ e. absurd cc)
  | inr (inl leaf) ↦ (λ e. absurd cc, λ e. absurd cc)
  | inr (inr (inl instance)) ↦ absurd (h.is_node instance)
  | inr (inr (inr none)) ↦ absurd none
]

whole_at : (kind : Kind) (k : ℕ) (path : List Own) (own : Own) (kids : Nodes) → IsAbove kind → AreShaped (kinds_in kind) kids
    → (AreShaped (kinds_in Group) kids → owns (aliases_among path k kids) ≡ aliases_among_owns (owns_among kids))
    → owns (aliases_at kind (leaf_aliases k path kids) (aliases_among path k kids)) ≡ cond (is_alias kind) (own ∷ aliases_among_owns (owns_among kids)) (aliases_among_owns (owns_among kids))
whole_at Set k path own kids is shaped below = below shaped
whole_at Group k path own kids is shaped below = below shaped
whole_at Leaf k path own kids is shaped below = whole_leaf k path kids shaped
whole_at Alias k path own kids is shaped below = absurd (is.0 refl)
whole_at Instance k path own kids is shaped below = absurd (is.1 refl)

mutual
  whole_from : (above : List Own) (k : ℕ) (n : Node) → IsAbove (node_kind n) → IsShaped n → owns (aliases_from above k n) ≡ aliases_among_owns (owns_of n)
  whole_from above k (node own kids) is shaped = whole_at own.kind k (above ++ own ∷ []) own kids is shaped (λ kids_shaped. whole_among (above ++ own ∷ []) k kids kids_shaped)

  whole_among : (above : List Own) (k : ℕ) (ns : Nodes) → AreShaped (kinds_in Group) ns → owns (aliases_among above k ns) ≡ aliases_among_owns (owns_among ns)
  whole_among above k no_nodes shaped = refl
  whole_among above k (more n ns) shaped =
      let next = k + length (paths_from above n) in
      map-append (λ a. a.own) (aliases_from above k n) (aliases_among above next ns)
      ∙ ap (λ l. l ++ owns (aliases_among above next ns)) (whole_from above k n (above_one (node_kind n) shaped.0) shaped.1.0)
      ∙ ap (λ l. aliases_among_owns (owns_of n) ++ l) (whole_among above next ns shaped.1.1)
      ∙ sym (filter-append (owns_of n) (owns_among ns))

pub aliases_are_all : AliasesAreAll
aliases_are_all set is = whole_from [] 0 set (let root = is.root in (λ e. absurd cc, λ e. absurd cc)) is.shaped

-- ---- their labels

last_name : (above : List Own) (own : Own) → path_name (above ++ own ∷ []) ≡ own.name
last_name [] own = refl
last_name (o ∷ []) own = refl
last_name (o ∷ next ∷ above) own = last_name (next ∷ above) own

abbrev HasName : AliasPath → Type 0
HasName a = is_name a.own.name ≡ true

named_of_leaf : (k : ℕ) (path : List Own) (kids : Nodes) → AreSound kids → AllByRecursion HasName (leaf_aliases k path kids)
named_of_leaf k path no_nodes sound = tt
named_of_leaf k path (more (node own kids) ns) sound = go own.kind (named_of_leaf k path ns sound.1)
  where
    go : (kind : Kind) → AllByRecursion HasName (leaf_aliases k path ns) → AllByRecursion HasName (with_alias kind (record { leaf = k; above = path; own = own }) (leaf_aliases k path ns))
    go Alias rest = (sound.0.0.name, rest)
    go Set rest = rest
    go Group rest = rest
    go Leaf rest = rest
    go Instance rest = rest

named_at : (kind : Kind) (own others : List AliasPath) → AllByRecursion HasName own → AllByRecursion HasName others → AllByRecursion HasName (aliases_at kind own others)
named_at Leaf own others here there = here
named_at Set own others here there = there
named_at Group own others here there = there
named_at Alias own others here there = tt
named_at Instance own others here there = tt

mutual
  named_from : (above : List Own) (k : ℕ) (n : Node) → IsSound n → AllByRecursion HasName (aliases_from above k n)
  named_from above k (node own kids) sound =
      let path = above ++ own ∷ [] in
      named_at own.kind (leaf_aliases k path kids) (aliases_among path k kids) (named_of_leaf k path kids sound.1) (named_among path k kids sound.1)

  named_among : (above : List Own) (k : ℕ) (ns : Nodes) → AreSound ns → AllByRecursion HasName (aliases_among above k ns)
  named_among above k no_nodes sound = tt
  named_among above k (more n ns) sound =
      let next = k + length (paths_from above n) in
      all-append HasName (aliases_from above k n) (aliases_among above next ns) (named_from above k n sound.0) (named_among above next ns sound.1)

pub labels_tell_aliases : LabelsTellAliases
labels_tell_aliases set is few = labels_tell_leaves (alias_paths (aliases_in set)) few_paths (All-map (λ path. is_name (path_name path) ≡ true) alias_path (aliases_in set) (All-from_recursion _ _ named))
  where
    few_paths : length (alias_paths (aliases_in set)) ≤ 65536
    few_paths = subst (λ n. n ≤ 65536) (sym (length-map (aliases_in set) alias_path)) few

    named : AllByRecursion (λ a. is_name (path_name (alias_path a)) ≡ true) (aliases_in set)
    named = all-weaker HasName (λ a. is_name (path_name (alias_path a)) ≡ true) (λ a h. ap is_name (last_name a.above a.own) ∙ h) (aliases_in set) (named_from [] 0 set is.sound)
