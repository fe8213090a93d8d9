use Rattle.std.proofs.Common.{◌≡◌, ◌++◌, drop, flat_map}
use Rattle.list_words.proofs.FieldLaws.{line_at}
use Rattle.list_words.proofs.leaf_fields.push_field_lines.Given as goal

-- with those that are left, the lines of all fields are there
abbrev pub invariant-loop-field : goal.invariant-loop-field
invariant-loop-field l = l.out.items ++ flat_map (line_at l.names l.layout) (drop l.field-index l.fields) ≡ l.initial.out.items ++ flat_map (line_at l.names l.layout) l.fields
