-- What this crate's fields stand for.
use Rattle.insn_tree.specs.Visible.{FlatField}
use Rattle.insn_tree.specs.declared.field_range.FieldRange.{FieldRange}

abbrev pub flat_field : FieldRange → FlatField
flat_field f = record { name = f.name.0; start = f.range.start; width = f.range.width }
