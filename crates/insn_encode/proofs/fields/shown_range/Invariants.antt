use Rattle.std.proofs.Common.{◌≡◌, ◌==◌, drop}
use Rattle.std.specs.Prelude.{option_map}
use Rattle.spec_encoding.specs.Named.{field_for}
use Rattle.insn_encode.specs.Views.{shown_of, range_of}
use Rattle.insn_encode.proofs.fields.shown_range.Given as goal

-- the fields that are left have the name's field
abbrev pub invariant-loop-field : goal.invariant-loop-field
invariant-loop-field l = option_map range_of (field_for (λ a b. a == b) (shown_of l.layout (drop l.field-index l.fields)) l.name.0) ≡ option_map range_of (field_for (λ a b. a == b) (shown_of l.layout l.fields) l.name.0)
