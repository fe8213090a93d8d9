use Rattle.std.proofs.Common.{◌≡◌, map, drop}
use Rattle.std.specs.List.{list_any}
use Rattle.insn_tree.specs.Visible.{has_field_name}
use Rattle.insn_tree.specs.Views.{flat_field}
use Rattle.insn_tree.proofs.item_fields.is_taken.Given as goal

abbrev pub invariant-loop-field : goal.invariant-loop-field
invariant-loop-field l = list_any (has_field_name l.name.0) (map flat_field (drop l.field-index l.fields)) ≡ list_any (has_field_name l.name.0) (map flat_field l.fields)
