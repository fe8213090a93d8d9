use Rattle.std.proofs.Common.{◌≡◌, ◌<◌, ◌||◌, ℕ, map, drop}
use Rattle.word_layout.specs.Masks.{has_bit}
use Rattle.insn_tree.specs.Layouts.{some_covers}
use Rattle.insn_tree.specs.Views.{flat_field}
use Rattle.insn_tree.proofs.item_layout.bits_of_fields.Given as goal

-- the bits so far and those of the fields that are left are those of all fields
abbrev pub invariant-loop-field : goal.invariant-loop-field
invariant-loop-field l = (i : ℕ) → i < 32 → (has_bit l.bits i || some_covers i (map flat_field (drop l.field-index l.fields))) ≡ some_covers i (map flat_field l.fields)
