-- What a document that was read stands for: registers whose names are numbers.
use Rattle.std.specs.Prelude.{ℕ, Bool, true, false, List, map, take, drop, Option, option_map}
use Rattle.spec_expressions.specs.Expression.{ExprOf}
use Rattle.spec_instructions.specs.Encodeset as bits
use Rattle.spec_registers.specs.Registers as registers
use Rattle.spec_registers.specs.Registers.{FieldOf, FieldsetOf, EntryOf, RegisterOf, RegistersOf}
use Rattle.bit_pattern.specs.declared.range.Range.{Range}
use Rattle.bit_pattern.specs.Views.{digits_of}
use Rattle.mrs_arena.specs.declared.expr_id.ExprId.{ExprId}
use Rattle.mrs_arena.specs.Expressions.{expr_at}
use Rattle.register_document.specs.declared.span.Span.{Span}
use Rattle.register_document.specs.declared.field.FieldDef.{FieldDef}
use Rattle.register_document.specs.declared.field.Fieldset.{Fieldset}
use Rattle.register_document.specs.declared.register.Entry.{Entry}
use Rattle.register_document.specs.declared.register.RegisterDef.{RegisterDef}
use Rattle.register_document.specs.declared.document.RegisterDoc.{RegisterDoc}

-- the elements of a span
abbrev pub spanned : {X : Type 0} → Span → List X → List X
spanned s xs = take s.len (drop s.from xs)

-- the expression of a number that may be there
abbrev pub condition_at : List (ExprOf ℕ) → Option ExprId → Option (ExprOf ℕ)
condition_at exprs e = option_map (expr_at exprs) (option_map (λ id. id.0) e)

abbrev pub range_of : Range → bits.Range
range_of r = record { start = r.start; width = r.width }

abbrev pub field_of : List (ExprOf ℕ) → List Range → FieldDef → FieldOf ℕ
field_of exprs ranges f = record { name = f.name.0; ranges = map range_of (spanned f.ranges ranges); condition = condition_at exprs f.condition }

abbrev pub fieldset_of : List (ExprOf ℕ) → List Range → List FieldDef → Fieldset → FieldsetOf ℕ
fieldset_of exprs ranges fields s = record { width = s.width; condition = condition_at exprs s.condition; fields = map (field_of exprs ranges) (spanned s.fields fields) }

abbrev pub direction_of : Bool → registers.Direction
direction_of true = registers.Read
direction_of false = registers.Write

abbrev pub entry_of : List (ExprOf ℕ) → Entry → EntryOf ℕ
entry_of exprs e = record { direction = direction_of e.read; name = e.name.0; condition = condition_at exprs e.condition; key = digits_of e.key }

abbrev pub register_of : RegisterDoc → RegisterDef → RegisterOf ℕ
register_of doc r = record {
  name = r.name.0;
  condition = condition_at doc.arena.exprs r.condition;
  fieldsets = map (fieldset_of doc.arena.exprs doc.ranges.items doc.fields.items) (spanned r.fieldsets doc.fieldsets.items);
  entries = map (entry_of doc.arena.exprs) (spanned r.accessors doc.entries.items);
}

abbrev pub registers_of : RegisterDoc → RegistersOf ℕ
registers_of doc = record { registers = map (register_of doc) doc.registers.items; arrays = doc.arrays; blocks = doc.blocks; passed = doc.passed }
