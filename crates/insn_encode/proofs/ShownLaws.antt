-- The shown fields among the visible ones, and that of a name, one visible field after the other.
use Rattle.std.specs.Prelude.{All, map, option_map}
use Rattle.std.proofs.Common.{◌≡◌, ◌∙◌, sym, ap, refl, ℕ, suc, ◌+◌, ◌<◌, Bool, true, false, ◌==◌, cond, List, ◌∷◌, length, drop, get_or, Option, Some, drop-cons, add-one}
use Rattle.std.proofs.lemmas.List.Elements.{All-map, All-filter}
use Rattle.spec_encoding.specs.Named.{field_for}
use Rattle.word_layout.specs.declared.layout.WordLayout.{WordLayout}
use Rattle.insn_tree.specs.Visible.{FlatField}
use Rattle.insn_tree.specs.Views.{flat_field}
use Rattle.insn_tree.specs.declared.field_range.FieldRange.{FieldRange}
use Rattle.insn_encode.specs.Shown.{is_flat_shown, shown_among}
use Rattle.insn_encode.specs.Views.{field_of, is_shown, shown_of, range_of}

module _ (layout : WordLayout) (name : ℕ) where
  abbrev pub found : List FieldRange → Option (ℕ × ℕ)
  found fields = option_map range_of (field_for (λ a b. a == b) (shown_of layout fields) name)

  skip : (f : FieldRange) (fs : List FieldRange) → (f.name.0 == name) ≡ false → found (f ∷ fs) ≡ found fs
  skip f fs other = go (is_shown layout (field_of f))
    where
      go : (b : Bool) → option_map range_of (field_for (λ a b. a == b) (cond b (field_of f ∷ shown_of layout fs) (shown_of layout fs)) name) ≡ found fs
      go true = ap (λ t. option_map range_of (cond t (Some (field_of f)) (field_for (λ a b. a == b) (shown_of layout fs) name))) other
      go false = refl

  -- a field of another name is passed over
  pub found-next : (fields : List FieldRange) (k : ℕ) (f : FieldRange) (x : Option (ℕ × ℕ)) → k < length fields → f ≡ get_or fields k f → (f.name.0 == name) ≡ false → found (drop k fields) ≡ x → found (drop (k + 1) fields) ≡ x
  found-next fields k f x below is other before =
      ap (λ i. found (drop i fields)) (add-one k)
      ∙ sym (skip f (drop (suc k) fields) other)
      ∙ ap (λ g. found (g ∷ drop (suc k) fields)) is
      ∙ ap found (sym (drop-cons fields k f below))
      ∙ before

-- what holds of all fields holds of those that are shown
pub all-shown : (P : FlatField → Type 0) (layout : WordLayout) (fields : List FieldRange) → All (λ f. P (flat_field f)) fields → All P (shown_among layout fields)
all-shown P layout fields all = All-filter (is_flat_shown layout) P (map flat_field fields) (All-map P flat_field fields all)
