-- The lines of the visible fields of a leaf, by the numbers of their names and by masks.
use Rattle.std.proofs.Common.{◌≡◌, ◌∙◌, sym, ap, refl, ℕ, ◌+◌, ◌<◌, ◌≤◌, List, [], ◌∷◌, ◌++◌, length, map, flat_map, get_or, All, arith}
use Rattle.std.specs.Prelude.{is_none, slice_index_or}
use Rattle.std.proofs.lemmas.List.{get_or-map}
use Rattle.std.proofs.lemmas.List.Elements.{All-head, All-tail}
use Rattle.spec_instructions.specs.Tree.{Own}
use Rattle.spec_instructions.specs.Fields.{fields}
use Rattle.spec_encoding.specs.Layout.{numbers}
use Rattle.spec_encoding.specs.PathLayout.{is_open, is_shown, fixed_at, layout}
use Rattle.spec_encoding.proofs.ByNumbers.{any-range-same}
use Rattle.spec_lines.specs.LeafFields.{field_text, field_line}
use Rattle.word_layout.specs.declared.layout.WordLayout.{WordLayout}
use Rattle.word_layout.specs.Masks.{fixed_by}
use Rattle.word_layout.specs.Views.{numbers_of}
use Rattle.word_layout.proofs.NumberLaws.{numbers-to}
use Rattle.mrs_arena.specs.Flat.{FlatNode}
use Rattle.mrs_arena.specs.Placed.{path_to, paths_of, leaves_of}
use Rattle.insn_tree.specs.declared.field_range.FieldRange.{FieldRange}
use Rattle.insn_tree.specs.Trees.{field_of}
use Rattle.insn_tree.proofs.LayoutLaws.{path-binary}

-- the line of a field, which is shown where some bit of it is not in the mask
abbrev pub line_at : List (List ℕ) → WordLayout → FieldRange → List ℕ
line_at names b f = field_text (field_of names f) (is_open (fixed_by b.mask b.value) f.range.start f.range.width)

abbrev pub IsWithin : FieldRange → Type 0
IsWithin f = f.range.start + f.range.width ≤ 32

lines-along : (names : List (List ℕ)) (b : WordLayout) (path : List Own) → ((i : ℕ) → i < 32 → fixed_by b.mask b.value i ≡ fixed_at path i) → (fs : List FieldRange) → All IsWithin fs
    → flat_map (line_at names b) fs ≡ flat_map (field_line path) (map (field_of names) fs)
lines-along names b path agree [] within = refl
lines-along names b path agree (f ∷ fs) within =
    ap (λ t. field_text (field_of names f) t ++ flat_map (line_at names b) fs) shown-same
    ∙ ap (λ ts. field_line path (field_of names f) ++ ts) (lines-along names b path agree fs (All-tail IsWithin f fs within))
  where
    fits : IsWithin f
    fits = All-head IsWithin f fs within

    shown-same : is_open (fixed_by b.mask b.value) f.range.start f.range.width ≡ is_shown path (field_of names f)
    shown-same = any-range-same (λ k. is_none (fixed_by b.mask b.value (f.range.start + k))) (λ k. is_none (fixed_at path (f.range.start + k))) 0 f.range.width (λ k from below. ap is_none (agree (f.range.start + k) (omega (arith, fits, below))))

-- all of them are those of the fields that are visible at the leaf
pub all-lines : (names : List (List ℕ)) (nodes : List FlatNode) (l : ℕ) → l < length (leaves_of nodes) → (b : WordLayout) → numbers_of b ≡ numbers (layout (slice_index_or (paths_of names nodes) l []))
    → (fs : List FieldRange) → map (field_of names) fs ≡ fields (slice_index_or (paths_of names nodes) l []) → All IsWithin fs
    → flat_map (line_at names b) fs ≡ flat_map (field_line (slice_index_or (paths_of names nodes) l [])) (fields (slice_index_or (paths_of names nodes) l []))
all-lines names nodes l below b same fs visible within =
    let n = get_or (leaves_of nodes) l 0 in
    let here = get_or-map (path_to names nodes) (leaves_of nodes) l 0 [] below in
    let agree = (numbers-to b (layout (path_to names nodes n)) (path-binary names nodes n) (same ∙ ap (λ p. numbers (layout p)) here)).fixed in
    lines-along names b (path_to names nodes n) agree fs within
    ∙ ap (λ (p : List Own). flat_map (field_line p) (map (field_of names) fs)) (sym here)
    ∙ ap (flat_map (field_line (slice_index_or (paths_of names nodes) l []))) visible
