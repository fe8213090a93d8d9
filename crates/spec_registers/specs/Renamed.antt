-- Registers with other names in place of their own.
use Rattle.std.specs.Prelude.{map, option_map}
use Rattle.spec_expressions.specs.Expression.{with_names}
use Rattle.spec_registers.specs.Registers.{FieldOf, FieldsetOf, EntryOf, RegisterOf, RegistersOf}
use Rattle.spec_registers.specs.View.{PieceOf}

-- with `f name` in the place of each name
abbrev pub field_with_names : {M N : Type 0} → (M → N) → FieldOf M → FieldOf N
field_with_names f x = record { name = f x.name; ranges = x.ranges; condition = option_map (with_names f) x.condition }

abbrev pub fieldset_with_names : {M N : Type 0} → (M → N) → FieldsetOf M → FieldsetOf N
fieldset_with_names f x = record { width = x.width; condition = option_map (with_names f) x.condition; fields = map (field_with_names f) x.fields }

abbrev pub entry_with_names : {M N : Type 0} → (M → N) → EntryOf M → EntryOf N
entry_with_names f x = record { direction = x.direction; name = f x.name; condition = option_map (with_names f) x.condition; key = x.key }

abbrev pub register_with_names : {M N : Type 0} → (M → N) → RegisterOf M → RegisterOf N
register_with_names f x = record {
  name = f x.name;
  condition = option_map (with_names f) x.condition;
  fieldsets = map (fieldset_with_names f) x.fieldsets;
  entries = map (entry_with_names f) x.entries;
}

abbrev pub registers_with_names : {M N : Type 0} → (M → N) → RegistersOf M → RegistersOf N
registers_with_names f x = record { registers = map (register_with_names f) x.registers; arrays = x.arrays; blocks = x.blocks; passed = x.passed }

abbrev pub piece_with_names : {M N : Type 0} → (M → N) → PieceOf M → PieceOf N
piece_with_names f x = record { name = option_map f x.name; start = x.start; width = x.width; value = x.value }
