-- Laws of parts of an array of fields.
use Rattle.std.proofs.Common.{◌≡◌, ◌∙◌, ap, refl, ℕ, ◌-◌, ◌≤◌, List, [], ◌∷◌, ◌++◌, length, map, take, drop, arith, All, length-append, length-drop}
use Rattle.std.specs.Prelude.{slice_range}
use Rattle.std.proofs.lemmas.List.{map-append, drop-append-le, take-append-le, take_all}
use Rattle.std.proofs.lemmas.List.Elements.{All-head, All-tail}
use Rattle.std.proofs.Math.Seq.{drop-append_seam}
use Rattle.insn_tree.specs.Views.{flat_field}
use Rattle.insn_tree.specs.Parts.{part_of, IsPart}
use Rattle.insn_tree.specs.declared.field_range.FieldRange.{FieldRange}
use Rattle.insn_tree.specs.declared.field_table.Part.{Part}

-- a part stays as it is while more fields are put
range_kept : (fields more : List FieldRange) (from to : ℕ) → from ≤ to → to ≤ length fields → slice_range (fields ++ more) from to ≡ slice_range fields from to
range_kept fields more from to rises fits =
    ap (take (to - from)) (drop-append-le from fields more (omega arith)) ∙ take-append-le (to - from) (drop from fields) more (omega (arith, length-drop from fields))

parts_kept : (fields more : List FieldRange) (parts : List Part) → All (IsPart fields) parts → map (part_of (fields ++ more)) parts ≡ map (part_of fields) parts
parts_kept fields more [] each = refl
parts_kept fields more (part ∷ parts) each =
    let here = All-head (IsPart fields) part parts each in
    ap (λ xs. map flat_field xs ∷ map (part_of (fields ++ more)) parts) (range_kept fields more part.from part.to here.0 here.1)
    ∙ ap (λ ps. part_of fields part ∷ ps) (parts_kept fields more parts (All-tail (IsPart fields) part parts each))

-- the fields that were put last are the last part
last_range : (fields more : List FieldRange) (from to : ℕ) → from ≡ length fields → to ≡ length (fields ++ more) → slice_range (fields ++ more) from to ≡ more
last_range fields more from to starts ends =
    let size : to - from ≡ length more = omega (arith, length-append fields more) in
    ap (λ k. take (to - from) (drop k (fields ++ more))) starts
    ∙ ap (take (to - from)) (drop-append_seam fields more)
    ∙ take_all (to - from) more (omega arith)

pub part-put : (fields more : List FieldRange) (parts : List Part) (part : Part) → All (IsPart fields) parts → part.from ≡ length fields → part.to ≡ length (fields ++ more)
    → map (part_of (fields ++ more)) (parts ++ part ∷ []) ≡ map (part_of fields) parts ++ map flat_field more ∷ []
part-put fields more parts part each starts ends =
    map-append (part_of (fields ++ more)) parts (part ∷ [])
    ∙ ap (λ ps. ps ++ part_of (fields ++ more) part ∷ []) (parts_kept fields more parts each)
    ∙ ap (λ xs. map (part_of fields) parts ++ map flat_field xs ∷ []) (last_range fields more part.from part.to starts ends)
