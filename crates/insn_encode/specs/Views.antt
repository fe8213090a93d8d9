-- What this crate's types stand for, by the numbers of names.
use Rattle.std.specs.Prelude.{ℕ, ◌==◌, ◌≡◌, Bool, List, map, filter, None, Result}
use Rattle.std.specs.Result.{result_map_both}
use Rattle.spec_encoding.specs.Parts.{Part}
use Rattle.spec_encoding.specs.PathLayout.{is_open}
use Rattle.spec_encoding.specs.Refusal.{Refusal, UnknownField, DoubledField, MissingField, TooWide, Clash, FixedBit, RestBit, Excluded}
use Rattle.spec_encoding.specs.Named.{FieldOf, field_for, part_from, encoded}
use Rattle.bit_pattern.specs.declared.range.Range.{Range}
use Rattle.mrs_names.specs.declared.name_id.NameId.{NameId}
use Rattle.insn_tree.specs.declared.field_range.FieldRange.{FieldRange}
use Rattle.word_layout.specs.declared.layout.WordLayout.{WordLayout}
use Rattle.word_layout.specs.Masks.{fixed_by}
use Rattle.word_layout.specs.Views.{layout_of}
use Rattle.insn_encode.specs.declared.fault.EncodeFault.{EncodeFault}
use Rattle.insn_encode.specs.declared.fault.EncodeFault.TheVariants as fault

abbrev pub field_of : FieldRange → FieldOf ℕ
field_of f = record { name = f.name.0; start = f.range.start; width = f.range.width }

abbrev pub pair_of : NameId × ℕ → ℕ × ℕ
pair_of p = (p.0.0, p.1)

abbrev pub is_shown : WordLayout → FieldOf ℕ → Bool
is_shown layout f = is_open (fixed_by layout.mask layout.value) f.start f.width

abbrev pub shown_of : WordLayout → List FieldRange → List (FieldOf ℕ)
shown_of layout fields = filter (is_shown layout) (map field_of fields)

abbrev pub range_of : FieldOf ℕ → ℕ × ℕ
range_of f = (f.start, f.width)

abbrev pub ends : Range → ℕ × ℕ
ends r = (r.start, r.width)

abbrev pub part_for : List (FieldOf ℕ) → ℕ → ℕ → Part
part_for shown name value = part_from (λ a b. a == b) (field_for (λ a b. a == b) shown name) value

abbrev pub refusal_of : EncodeFault → Refusal ℕ
refusal_of (fault.UnknownField i) = UnknownField i
refusal_of (fault.DoubledField i) = DoubledField i
refusal_of (fault.MissingField name) = MissingField name.0
refusal_of (fault.TooWide i) = TooWide i
refusal_of (fault.Clash bit) = Clash bit
refusal_of (fault.FixedBit bit) = FixedBit bit
refusal_of (fault.RestBit bit) = RestBit bit
refusal_of (fault.Excluded node) = Excluded node.0

abbrev pub answer_of : Result ℕ EncodeFault → Result ℕ (Refusal ℕ)
answer_of r = result_map_both (λ w. w) refusal_of r

-- what is placed is what would be encoded if nothing were excluded
abbrev pub Places : WordLayout → List FieldRange → List (NameId × ℕ) → ℕ → Result ℕ EncodeFault → Type 0
Places layout fields pairs rest r = answer_of r ≡ encoded (λ a b. a == b) (layout_of layout) (λ w. None) (shown_of layout fields) (map pair_of pairs) rest
