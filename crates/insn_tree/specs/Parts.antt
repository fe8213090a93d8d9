-- Parts of an array of fields.
use Rattle.std.specs.Prelude.{◌≤◌, List, length, map, slice_range}
use Rattle.insn_tree.specs.Visible.{FlatField}
use Rattle.insn_tree.specs.Views.{flat_field}
use Rattle.insn_tree.specs.declared.field_range.FieldRange.{FieldRange}
use Rattle.insn_tree.specs.declared.field_table.Part.{Part}

abbrev pub part_of : List FieldRange → Part → List FlatField
part_of fields part = map flat_field (slice_range fields part.from part.to)

-- a part starts no later than it ends, and ends within the array
abbrev pub IsPart : List FieldRange → Part → Type 0
IsPart fields part = (part.from ≤ part.to) × (part.to ≤ length fields)
