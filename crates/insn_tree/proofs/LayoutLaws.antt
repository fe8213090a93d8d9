-- What is gathered of the bits of words along a path is the layout of that path.
use Rattle.std.specs.Prelude.{is_none, unwrap_or, nat_lt}
use Rattle.std.specs.Option.{option_or}
use Rattle.std.specs.List.{list_any}
use Rattle.std.proofs.Common.{◌≡◌, ◌∙◌, sym, ap, refl, subst, ℕ, ◌+◌, ◌<◌, ◌≤◌, Bool, true, false, not, ◌&&◌, ◌||◌, cond, List, [], ◌∷◌, ◌++◌, length, map, reverse, Option, Some, None, IfSome, All, arith}
use Rattle.std.proofs.lemmas.Bool.{lt-ltb}
use Rattle.std.proofs.lemmas.List.{reverse-append}
use Rattle.std.proofs.lemmas.List.Elements.{All-nil, All-cons, All-head, All-tail, All-append}
use Rattle.spec_bits.specs.Bits.{bit_of}
use Rattle.spec_bits.specs.Item.{fixes, should_be}
use Rattle.spec_instructions.specs.Tree.{Own}
use Rattle.spec_instructions.specs.Paths.{path_items}
use Rattle.spec_instructions.specs.Fields.{fields}
use Rattle.spec_encoding.specs.Parts.{covers}
use Rattle.spec_encoding.specs.Layout.{numbers}
use Rattle.spec_encoding.specs.PathLayout.{first_fixed, last_should_be, layout}
use Rattle.spec_encoding.proofs.PathLaws.{first_fixed-lt, last_should_be-lt}
use Rattle.spec_encoding.proofs.SameLayouts.{SameLayout, numbers-same}
use Rattle.mrs_names.specs.Texts.{AreNames}
use Rattle.mrs_arena.specs.Flat.{FlatItem, FlatNode, with_text}
use Rattle.mrs_arena.specs.Formed.{IsItem, AreNodes}
use Rattle.mrs_arena.specs.Placed.{item_of, path_to, IsHeldItem, AreHeld}
use Rattle.word_layout.specs.declared.fixed_bits.FixedBits.{FixedBits}
use Rattle.word_layout.specs.declared.layout.WordLayout.{WordLayout}
use Rattle.word_layout.specs.Masks.{has_bit, IsMask, fixed_by}
use Rattle.word_layout.specs.Views.{fixed_in, numbers_of}
use Rattle.word_layout.proofs.NumberLaws.{IsBinary, numbers-from}
use Rattle.insn_tree.specs.declared.field_range.FieldRange.{FieldRange}
use Rattle.insn_tree.specs.Views.{flat_field}
use Rattle.insn_tree.proofs.ListLaws.{All-unmap}
use Rattle.insn_tree.specs.Upward.{onto}
use Rattle.insn_tree.specs.Visible.{FlatField, with_named, with_field, has_field_name, field_named, fields_at}
use Rattle.insn_tree.specs.Layouts.{fix_first, should_last, fixed_at, should_be_at, some_covers, layout_at}
use Rattle.ast_eval.specs.Fields.{items_to}
use Rattle.ast_eval.proofs.PathLaws.{path_items_to, all_to, held_to}
use Rattle.insn_tree.proofs.UpwardLaws.{gathered-onto, formed_items}
use Rattle.insn_tree.proofs.VisibleLaws.{text_field, fields-at}

-- ---- fixed bits and should-be bits

first-onto : (names : List (List ℕ)) (items : List FlatItem) (i : ℕ) → first_fixed (map (item_of names) items) i ≡ onto (fix_first i) items None
first-onto names [] i = refl
first-onto names (it ∷ items) i = ap (option_or (fixes (with_text None it) i)) (first-onto names items i)

last-onto : (names : List (List ℕ)) (items : List FlatItem) (i : ℕ) → last_should_be (map (item_of names) items) i ≡ onto (should_last i) items None
last-onto names [] i = refl
last-onto names (it ∷ items) i = ap (λ o. option_or o (should_be (with_text None it) i)) (last-onto names items i)

module _ (names : List (List ℕ)) (nodes : List FlatNode) (n : ℕ) where
  pub fixed-at : (i : ℕ) → fixed_at nodes n i ≡ first_fixed (path_items (path_to names nodes n)) i
  fixed-at i = sym (ap (λ its. first_fixed its i) (path_items_to names nodes n) ∙ first-onto names (items_to nodes n) i ∙ sym (gathered-onto (fix_first i) nodes n None))

  pub should_be-at : (i : ℕ) → should_be_at nodes n i ≡ last_should_be (path_items (path_to names nodes n)) i
  should_be-at i = sym (ap (λ its. last_should_be its i) (path_items_to names nodes n) ∙ last-onto names (items_to nodes n) i ∙ sym (gathered-onto (should_last i) nodes n None))

unwrapped-lt : (o : Option ℕ) → ((v : ℕ) → o ≡ Some v → v < 2) → unwrap_or o 0 < 2
unwrapped-lt None h = omega arith
unwrapped-lt (Some v) h = h v refl

pub layout-binary : (nodes : List FlatNode) (n : ℕ) → IsBinary (layout_at nodes n)
layout-binary nodes n = record {
  fixed = λ i v h. first_fixed-lt (path_items (path_to [] nodes n)) i v (sym (fixed-at [] nodes n i) ∙ h);
  default = λ i. unwrapped-lt (should_be_at nodes n i) (λ v h. last_should_be-lt (path_items (path_to [] nodes n)) i v (sym (should_be-at [] nodes n i) ∙ h));
}

-- the same of any path
pub any_path-binary : (path : List Own) → IsBinary (layout path)
any_path-binary path = record {
  fixed = λ i v h. first_fixed-lt (path_items path) i v h;
  default = λ i. unwrapped-lt (last_should_be (path_items path) i) (λ v h. last_should_be-lt (path_items path) i v h);
}

pub path-binary : (names : List (List ℕ)) (nodes : List FlatNode) (n : ℕ) → IsBinary (layout (path_to names nodes n))
path-binary names nodes n = any_path-binary (path_to names nodes n)

-- ---- fields

abbrev pub FitsWord : FlatField → Type 0
FitsWord f = f.start + f.width ≤ 32

named_fit : (it : FlatItem) (o : Option ℕ) (deeper : List FlatField) → it.start + length it.digits ≤ 32 → All FitsWord deeper → All FitsWord (with_named it o deeper)
named_fit it None deeper fits all = all
named_fit it (Some name) deeper fits all = go (list_any (has_field_name name) deeper)
  where
    go : (b : Bool) → All FitsWord (cond b deeper (deeper ++ field_named name it ∷ []))
    go true = all
    go false = All-append FitsWord deeper (field_named name it ∷ []) all (All-cons FitsWord (field_named name it) [] fits (All-nil FitsWord))

onto_fit : (items : List FlatItem) → All IsItem items → All FitsWord (onto with_field items [])
onto_fit [] all = All-nil FitsWord
onto_fit (it ∷ items) all = named_fit it it.name (onto with_field items []) (All-head IsItem it items all).fits (onto_fit items (All-tail IsItem it items all))

turned : (P : FlatField → Type 0) (fs : List FlatField) → All P fs → All P (reverse fs)
turned P [] all = all
turned P (f ∷ fs) all =
    subst (All P) (sym (reverse-append (f ∷ []) fs)) (All-append P (reverse fs) (f ∷ []) (turned P fs (All-tail P f fs all)) (All-cons P f [] (All-head P f fs all) (All-nil P)))

pub fields-fit : (nodes : List FlatNode) → AreNodes nodes → (n : ℕ) → All FitsWord (fields_at nodes n)
fields-fit nodes formed n =
    turned FitsWord _
    (subst (All FitsWord) (sym (gathered-onto with_field nodes n [])) (onto_fit (items_to nodes n) (all_to IsItem nodes (formed_items nodes formed) n)))

-- and each has a name that is held
abbrev pub HasHeldName : List (List ℕ) → FlatField → Type 0
HasHeldName names f = f.name < length names

named_held : (names : List (List ℕ)) (it : FlatItem) (o : Option ℕ) (deeper : List FlatField) → IfSome o (λ id. id < length names) → All (HasHeldName names) deeper → All (HasHeldName names) (with_named it o deeper)
named_held names it None deeper held all = all
named_held names it (Some name) deeper held all = go (list_any (has_field_name name) deeper)
  where
    go : (b : Bool) → All (HasHeldName names) (cond b deeper (deeper ++ field_named name it ∷ []))
    go true = all
    go false = All-append (HasHeldName names) deeper (field_named name it ∷ []) all (All-cons (HasHeldName names) (field_named name it) [] held (All-nil (HasHeldName names)))

onto_held : (names : List (List ℕ)) (items : List FlatItem) → All (IsHeldItem names) items → All (HasHeldName names) (onto with_field items [])
onto_held names [] all = All-nil (HasHeldName names)
onto_held names (it ∷ items) all = named_held names it it.name (onto with_field items []) (All-head (IsHeldItem names) it items all) (onto_held names items (All-tail (IsHeldItem names) it items all))

fields-held : (names : List (List ℕ)) (nodes : List FlatNode) → AreHeld names nodes → (n : ℕ) → All (HasHeldName names) (fields_at nodes n)
fields-held names nodes held n =
    turned (HasHeldName names) _
    (subst (All (HasHeldName names)) (sym (gathered-onto with_field nodes n [])) (onto_held names (items_to nodes n) (held_to names nodes held n)))

covers-text : (names : List (List ℕ)) (i : ℕ) (fs : List FlatField) → list_any (λ f. covers f.start f.width i) (map (text_field names) fs) ≡ some_covers i fs
covers-text names i [] = refl
covers-text names i (f ∷ fs) = ap (λ b. covers f.start f.width i || b) (covers-text names i fs)

-- ---- the layout

module _ (names : List (List ℕ)) (are : AreNames names) (nodes : List FlatNode) (held : AreHeld names nodes) (n : ℕ) where
  covers-at : (i : ℕ) → some_covers i (fields_at nodes n) ≡ list_any (λ f. covers f.start f.width i) (fields (path_to names nodes n))
  covers-at i = sym (covers-text names i (fields_at nodes n)) ∙ ap (list_any (λ f. covers f.start f.width i)) (fields-at names are nodes held n)

  pub layout-same : SameLayout (layout_at nodes n) (layout (path_to names nodes n))
  layout-same = record {
    fixed = λ i below. fixed-at names nodes n i;
    free = λ i below.
        ap (λ o. nat_lt i 32 && (is_none o && not (some_covers i (fields_at nodes n)))) (fixed-at names nodes n i)
        ∙ ap (λ b. nat_lt i 32 && (is_none (first_fixed (path_items (path_to names nodes n)) i) && not b)) (covers-at i);
    default = λ i below is. ap (λ o. unwrap_or o 0) (should_be-at names nodes n i);
  }

  pub layout-numbers : numbers (layout_at nodes n) ≡ numbers (layout (path_to names nodes n))
  layout-numbers = numbers-same (layout_at nodes n) (layout (path_to names nodes n)) layout-same

-- ---- what is made of masks

module _ (nodes : List FlatNode) (n : ℕ) (fs : List FieldRange) (visible : map flat_field fs ≡ fields_at nodes n) where
  pub ranges-fit : AreNodes nodes → All (λ f. f.range.start + f.range.width ≤ 32) fs
  ranges-fit formed = All-unmap FitsWord flat_field fs (subst (All FitsWord) (sym visible) (fields-fit nodes formed n))

  pub names-held : (names : List (List ℕ)) → AreHeld names nodes → All (λ f. f.name.0 < length names) fs
  names-held names held = All-unmap (HasHeldName names) flat_field fs (subst (All (HasHeldName names)) (sym visible) (fields-held names nodes held n))

  module _ (b : WordLayout) (fixed should : FixedBits) (bits : ℕ)
      (fixed_is : (i : ℕ) → fixed_in fixed i ≡ fixed_at nodes n i) (bits_are : IsMask bits (λ i. some_covers i (map flat_field fs))) (should_is : (i : ℕ) → fixed_in should i ≡ should_be_at nodes n i)
      (has_fixed : (i : ℕ) → fixed_by b.mask b.value i ≡ fixed_in fixed i) (has_free : IsMask b.free (λ i. is_none (fixed_in fixed i) && not (has_bit bits i)))
      (has_default : (i : ℕ) → bit_of b.default i ≡ cond (has_bit b.free i) (unwrap_or (fixed_in should i) 0) 0) where
    free_is : (i : ℕ) → i < 32 → has_bit b.free i ≡ (layout_at nodes n).free i
    free_is i below =
        has_free i below
        ∙ ap (λ o. is_none o && not (has_bit bits i)) (fixed_is i)
        ∙ ap (λ t. is_none (fixed_at nodes n i) && not t) (bits_are i below ∙ ap (some_covers i) visible)
        ∙ ap (λ t. t && (is_none (fixed_at nodes n i) && not (some_covers i (fields_at nodes n)))) (sym (lt-ltb i 32 below))

    pub layout-made : numbers_of b ≡ numbers (layout_at nodes n)
    layout-made = numbers-from b (layout_at nodes n) (layout-binary nodes n) (record {
      fixed = λ i below. has_fixed i ∙ fixed_is i;
      free = free_is;
      default = λ i below. has_default i ∙ ap (λ t. cond t (unwrap_or (fixed_in should i) 0) 0) (free_is i below) ∙ ap (λ o. cond ((layout_at nodes n).free i) (unwrap_or o 0) 0) (should_is i);
    })
