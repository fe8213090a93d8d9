-- What is answered by numbers of names and nodes is the encoding along the path.
use Rattle.std.specs.Prelude.{Result, is_none, filter, Bool, ◌↔◌, ◌^◌}
use Rattle.std.proofs.Common.{◌≡◌, ◌≢◌, ◌∙◌, sym, ap, refl, ◌⊎◌, inl, inr, ℕ, ◌+◌, ◌<◌, ◌≤◌, ◌==◌, List, [], ◌∷◌, length, map, Some, None, Ok, Err, All, arith, true, false, cond}
use Rattle.std.proofs.lemmas.Bool.{cases_eq, eq-eqb, ne_eqb}
use Rattle.std.proofs.lemmas.List.Elements.{All-map, All-head, All-tail}
use Rattle.spec_expressions.specs.Scope.{Configuration}
use Rattle.spec_instructions.specs.Tree.{Own}
use Rattle.spec_instructions.specs.Paths.{path_items}
use Rattle.spec_instructions.specs.Fields.{fields, IsWithinWord}
use Rattle.spec_encoding.specs.Layout.{numbers, rest_in}
use Rattle.spec_encoding.specs.Refusal.{Refusal, Excluded, unless, with_node}
use Rattle.spec_encoding.specs.Named.{encoded}
use Rattle.spec_encoding.specs.PathLayout.{layout, rest_of, fixed_at, is_shown, shown}
use Rattle.spec_encoding.specs.Encoding.{named_field, encoding, Encodes}
use Rattle.spec_encoding.proofs.EncodingLaws.{encoding_is_exact}
use Rattle.spec_encoding.proofs.SameLayouts.{rest_in-same}
use Rattle.spec_encoding.proofs.Renamed.{renamed, told, unless_excluded, encoded-last}
use Rattle.spec_encoding.proofs.ByNumbers.{any-range-same, under, encoding-by_numbers}
use Rattle.mrs_names.specs.declared.name_id.NameId.{NameId}
use Rattle.mrs_arena.specs.declared.node_id.NodeId.{NodeId}
use Rattle.mrs_arena.specs.Flat.{FlatNode}
use Rattle.mrs_arena.specs.Placed.{text_of, path_to}
use Rattle.mrs_arena.proofs.NameLaws.{text_eq}
use Rattle.insn_tree.specs.declared.field_range.FieldRange.{FieldRange}
use Rattle.insn_tree.specs.Trees as tree
use Rattle.insn_tree.proofs.LayoutLaws.{any_path-binary}
use Rattle.word_layout.specs.declared.layout.WordLayout.{WordLayout}
use Rattle.word_layout.specs.Views.{layout_of, numbers_of}
use Rattle.word_layout.proofs.NumberLaws.{numbers-to}
use Rattle.insn_encode.specs.declared.fault.EncodeFault.{EncodeFault}
use Rattle.insn_encode.specs.declared.fault.EncodeFault.TheVariants as fault
use Rattle.insn_encode.specs.Views.{field_of, pair_of, shown_of, refusal_of, answer_of, Places}
use Rattle.ast_eval.specs.Choices.{Choices, configuration_of}
use Rattle.insn_tree.specs.Verdicts.{AreHeldBy}
use Rattle.insn_encode.specs.Held.{node_at, pair_by, refusal_by, answer_by}
use Rattle.insn_encode.specs.Paths.{IsPath}
use Rattle.word_layout.specs.Masks.{fixed_by}
use Rattle.insn_tree.specs.Views.{flat_field}
use Rattle.insn_encode.specs.Shown.{is_flat_shown, shown_among, field_by}
use Rattle.insn_encode.specs.Exclusion.{first_excluding}

-- ---- rests

pub rest-is : (b : WordLayout) (path : List Own) → numbers_of b ≡ numbers (layout path) → (w : ℕ) → rest_in (layout_of b) w ≡ rest_of path w
rest-is b path same w = rest_in-same (layout_of b) (layout path) (numbers-to b (layout path) (any_path-binary path) same) w

-- ---- names as numbers and as texts

turned : (a b : ℕ) → (b == a) ≡ (a == b)
turned a b = go (cases_eq a b)
  where
    go : (a ≡ b) ⊎ (a ≢ b) → (b == a) ≡ (a == b)
    go (inl same) = eq-eqb b a (sym same) ∙ sym (eq-eqb a b same)
    go (inr apart) = ne_eqb b a (λ e. apart (sym e)) ∙ sym (ne_eqb a b apart)

same-fields : (names : List (List ℕ)) (fs : List FieldRange) → map (under (text_of names)) (map field_of fs) ≡ map named_field (map (tree.field_of names) fs)
same-fields names [] = refl
same-fields names (f ∷ fs) = ap (λ gs. under (text_of names) (field_of f) ∷ gs) (same-fields names fs)

abbrev text_pair : List (List ℕ) → ℕ × ℕ → List ℕ × ℕ
text_pair names p = (text_of names p.0, p.1)

same-pairs : (names : List (List ℕ)) (pairs : List (NameId × ℕ)) → map (text_pair names) (map pair_of pairs) ≡ map (pair_by names) pairs
same-pairs names [] = refl
same-pairs names (p ∷ pairs) = ap (λ ps. pair_by names p ∷ ps) (same-pairs names pairs)

refusal-told : (names : List (List ℕ)) (e : EncodeFault) → renamed (text_of names) (refusal_of e) ≡ refusal_by names e
refusal-told names (fault.UnknownField i) = refl
refusal-told names (fault.DoubledField i) = refl
refusal-told names (fault.MissingField name) = refl
refusal-told names (fault.TooWide i) = refl
refusal-told names (fault.Clash bit) = refl
refusal-told names (fault.FixedBit bit) = refl
refusal-told names (fault.RestBit bit) = refl
refusal-told names (fault.Excluded node) = refl

-- ---- what is answered

module _ (names : List (List ℕ)) (nodes : List FlatNode) (n : ℕ) (c : Choices) (hold : AreHeldBy names nodes c) (fs : List FieldRange) (b : WordLayout) (is_path : IsPath nodes n fs b)
    (pairs : List (NameId × ℕ)) (held_pairs : All (λ pair. pair.0.0 < length names) pairs) (rest : ℕ) where
  abbrev g : Configuration
  g = configuration_of (text_of names) c

  abbrev path : List Own
  path = path_to names nodes n

  abbrev Held : ℕ → Type 0
  Held a = a < length names

  abbrev answer : Result ℕ (Refusal (List ℕ))
  answer = with_node (node_at nodes n) (encoding path g (map (pair_by names) pairs) rest)

  by-numbers : told (text_of names) (encoded (λ a b. a == b) (layout_of b) (first_excluding names nodes n g) (shown_of b fs) (map pair_of pairs) rest) ≡ with_node (node_at nodes n) (encoding path g (map (text_pair names) (map pair_of pairs)) rest)
  by-numbers =
      encoding-by_numbers (text_of names) Held (λ a b ha hb. text_eq names a b hold.distinct ha hb ∙ turned a b) path g (node_at nodes n) (layout_of b) (first_excluding names nodes n g) (map field_of fs) (map pair_of pairs) rest
      (numbers-to b (layout path) (any_path-binary path) (is_path.numbers_are names hold.distinct hold.nodes_are))
      (λ w. refl)
      (same-fields names fs ∙ ap (map named_field) (is_path.visible names hold.distinct hold.nodes_are))
      (All-map (λ f. f.start + f.width ≤ 32) field_of fs is_path.within)
      (All-map (λ f. Held f.name) field_of fs (is_path.held names hold.nodes_are))
      (All-map (λ p. Held p.0) pair_of pairs held_pairs)

  placed-is : (placed : Result ℕ EncodeFault) → Places b fs pairs rest placed → told (text_of names) (unless_excluded (first_excluding names nodes n g) (answer_of placed)) ≡ answer
  placed-is placed is =
      ap (λ r. told (text_of names) (unless_excluded (first_excluding names nodes n g) r)) is
      ∙ ap (told (text_of names)) (sym (encoded-last (λ a b. a == b) (layout_of b) (first_excluding names nodes n g) (shown_of b fs) (map pair_of pairs) rest))
      ∙ by-numbers
      ∙ ap (λ ps. with_node (node_at nodes n) (encoding path g ps rest)) (same-pairs names pairs)

  pub refused-is : (e : EncodeFault) → Places b fs pairs rest (Err e) → answer_by names (Err e) ≡ answer
  refused-is e is = ap Err (sym (refusal-told names e)) ∙ placed-is (Err e) is

  pub excluded-is : (w : ℕ) (node : NodeId) → Places b fs pairs rest (Ok w) → Some node.0 ≡ first_excluding names nodes n g w → answer_by names (Err (fault.Excluded node)) ≡ answer
  excluded-is w node is first = ap (λ o. told (text_of names) (unless o Excluded (Ok w))) first ∙ placed-is (Ok w) is

  pub word-is : (w : ℕ) → Places b fs pairs rest (Ok w) → None ≡ first_excluding names nodes n g w → answer_by names (Ok w) ≡ answer
  word-is w is none = ap (λ o. told (text_of names) (unless o Excluded (Ok w))) none ∙ placed-is (Ok w) is

-- ---- shown fields

filter-by : (names : List (List ℕ)) (b : WordLayout) (path : List Own) → ((i : ℕ) → i < 32 → fixed_by b.mask b.value i ≡ fixed_at path i) → (fs : List FieldRange) → All (λ f. f.range.start + f.range.width ≤ 32) fs
    → map (field_by names) (shown_among b fs) ≡ filter (is_shown path) (map (tree.field_of names) fs)
filter-by names b path agree [] within = refl
filter-by names b path agree (f ∷ fs) within =
    pushed (is_flat_shown b (flat_field f))
    ∙ ap (λ t. cond t (tree.field_of names f ∷ map (field_by names) (shown_among b fs)) (map (field_by names) (shown_among b fs))) shown-same
    ∙ ap (λ gs. cond (is_shown path (tree.field_of names f)) (tree.field_of names f ∷ gs) gs) (filter-by names b path agree fs (All-tail (λ f. f.range.start + f.range.width ≤ 32) f fs within))
  where
    fits : f.range.start + f.range.width ≤ 32
    fits = All-head (λ f. f.range.start + f.range.width ≤ 32) f fs within

    shown-same : is_flat_shown b (flat_field f) ≡ is_shown path (tree.field_of names f)
    shown-same = any-range-same (λ k. is_none (fixed_by b.mask b.value (f.range.start + k))) (λ k. is_none (fixed_at path (f.range.start + k))) 0 f.range.width (λ k from below. ap is_none (agree (f.range.start + k) (omega (arith, fits, below))))

    pushed : (t : Bool) → map (field_by names) (cond t (flat_field f ∷ shown_among b fs) (shown_among b fs)) ≡ cond t (tree.field_of names f ∷ map (field_by names) (shown_among b fs)) (map (field_by names) (shown_among b fs))
    pushed true = refl
    pushed false = refl

pub shown-is : (names : List (List ℕ)) (path : List Own) (b : WordLayout) → numbers_of b ≡ numbers (layout path) → (fs : List FieldRange) → map (tree.field_of names) fs ≡ fields path → All (λ f. f.range.start + f.range.width ≤ 32) fs
    → map (field_by names) (shown_among b fs) ≡ shown path
shown-is names path b same fs visible within = filter-by names b path (numbers-to b (layout path) (any_path-binary path) same).fixed fs within ∙ ap (filter (is_shown path)) visible

-- ---- the word and no other

node-Ok : {N : Type 0} (e : ℕ → ℕ) (r : Result ℕ (Refusal N)) (w : ℕ) → with_node e r ≡ Ok w → r ≡ Ok w
node-Ok e (Ok v) w h = h
node-Ok e (Err why) w h = absurd (cc)

by-Ok : (names : List (List ℕ)) (r : Result ℕ EncodeFault) (w : ℕ) → answer_by names r ≡ Ok w → r ≡ Ok w
by-Ok names (Ok v) w h = let same : v ≡ w = cc h in ap Ok same
by-Ok names (Err why) w h = absurd (cc)

pub exact-word : (names : List (List ℕ)) (path : List Own) (g : Configuration) (pairs : List (List ℕ × ℕ)) (rest : ℕ) (e : ℕ → ℕ) (r : Result ℕ EncodeFault) → answer_by names r ≡ with_node e (encoding path g pairs rest)
    → All IsWithinWord (path_items path) → rest < 2 ^ 32 → (w : ℕ) → (r ≡ Ok w) ↔ Encodes path g pairs rest w
exact-word names path g pairs rest e r is within small w =
    let exact = encoding_is_exact path g pairs rest w within small in
    (λ h. exact.0 (node-Ok e (encoding path g pairs rest) w (sym is ∙ ap (answer_by names) h)), λ h. by-Ok names r w (is ∙ ap (with_node e) (exact.1 h)))
