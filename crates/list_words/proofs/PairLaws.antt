-- The shown fields of a word, by the numbers of their names.
use Rattle.std.proofs.Common.{◌≡◌, ◌∙◌, ap, refl, ℕ, List, [], ◌∷◌, ◌++◌, flat_map, map}
use Rattle.spec_bits.specs.Bits.{slice}
use Rattle.spec_instructions.specs.Tree.{Own}
use Rattle.spec_instructions.specs.Fields.{Field}
use Rattle.spec_encoding.specs.PathLayout.{shown}
use Rattle.spec_encoding.specs.Encoding.{own_pairs}
use Rattle.spec_lines.specs.Pairs.{pair_text}
use Rattle.mrs_arena.specs.Placed.{text_of}
use Rattle.insn_tree.specs.Visible.{FlatField}
use Rattle.insn_encode.specs.Shown.{field_by}

abbrev pub pair_at : List (List ℕ) → ℕ → FlatField → List ℕ
pair_at names w f = pair_text (text_of names f.name, slice w f.start f.width)

pairs-by : (names : List (List ℕ)) (w : ℕ) (fs : List FlatField) → flat_map (pair_at names w) fs ≡ flat_map pair_text (map (λ (f : Field). (f.name, slice w f.start f.width)) (map (field_by names) fs))
pairs-by names w [] = refl
pairs-by names w (f ∷ fs) = ap (λ ts. pair_at names w f ++ ts) (pairs-by names w fs)

pub all-pairs : (names : List (List ℕ)) (w : ℕ) (fs : List FlatField) (path : List Own) → map (field_by names) fs ≡ shown path → flat_map (pair_at names w) fs ≡ flat_map pair_text (own_pairs path w)
all-pairs names w fs path is = pairs-by names w fs ∙ ap (λ (gs : List Field). flat_map pair_text (map (λ (f : Field). (f.name, slice w f.start f.width)) gs)) is
