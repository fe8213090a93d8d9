-- The shown fields that an iterator has left.
use Rattle.std.specs.Prelude.{ℕ, Bool, List, map, filter}
use Rattle.spec_encoding.specs.PathLayout.{is_open}
use Rattle.spec_instructions.specs.Fields.{Field}
use Rattle.mrs_arena.specs.Placed.{text_of}
use Rattle.word_layout.specs.Masks.{fixed_by}
use Rattle.word_layout.specs.declared.layout.WordLayout.{WordLayout}
use Rattle.insn_tree.specs.Visible.{FlatField}
use Rattle.insn_tree.specs.Views.{flat_field}
use Rattle.insn_tree.specs.declared.field_range.FieldRange.{FieldRange}

abbrev pub is_flat_shown : WordLayout → FlatField → Bool
is_flat_shown layout f = is_open (fixed_by layout.mask layout.value) f.start f.width

abbrev pub shown_among : WordLayout → List FieldRange → List FlatField
shown_among layout fields = filter (is_flat_shown layout) (map flat_field fields)

-- a field with the text of its name
abbrev pub field_by : List (List ℕ) → FlatField → Field
field_by names f = record { name = text_of names f.name; start = f.start; width = f.width }
