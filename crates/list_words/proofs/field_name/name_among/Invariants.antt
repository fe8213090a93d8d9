use Rattle.std.proofs.Common.{◌≡◌, drop}
use Rattle.std.specs.List.{list_all}
use Rattle.list_words.specs.Names.{is_other}
use Rattle.list_words.proofs.field_name.name_among.Given as goal

abbrev pub invariant-loop-field : goal.invariant-loop-field
invariant-loop-field l = list_all (is_other l.names l.text) (drop l.field-index l.fields) ≡ list_all (is_other l.names l.text) l.fields
