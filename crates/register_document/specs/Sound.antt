-- What holds of each document that was read: spans lie within their arrays, conditions are expressions of the arena, and
-- limits are kept.
use Rattle.std.specs.Prelude.{◌≡◌, ℕ, ◌+◌, ◌<◌, ◌≤◌, List, length, All, Option, IfSome}
use Rattle.spec_registers.specs.Limits.{register_limit, fieldset_limit, entry_limit}
use Rattle.bit_pattern.specs.declared.range.Range.{Range}
use Rattle.mrs_arena.specs.declared.expr_id.ExprId.{ExprId}
use Rattle.register_document.specs.declared.field.FieldDef.{FieldDef}
use Rattle.register_document.specs.declared.field.Fieldset.{Fieldset}
use Rattle.register_document.specs.declared.register.Entry.{Entry}
use Rattle.register_document.specs.declared.register.RegisterDef.{RegisterDef}
use Rattle.register_document.specs.declared.document.RegisterDoc.{RegisterDoc}
use Rattle.register_document.specs.Views.{spanned}

-- a condition is an expression among so many
abbrev pub IsCondition : ℕ → Option ExprId → Type 0
IsCondition exprs e = IfSome e (λ id. id.0 < exprs)

pub record IsField (exprs ranges : ℕ) (f : FieldDef) : Type 0 where
  pub condition : IsCondition exprs f.condition
  pub ranges_end : f.ranges.from + f.ranges.len ≤ ranges

-- the ranges of each field of these end within so many bits
abbrev pub EndWithin : ℕ → List Range → List FieldDef → Type 0
EndWithin width ranges fields = All (λ f. All (λ r. r.start + r.width ≤ width) (spanned f.ranges ranges)) fields

pub record IsFieldset (exprs : ℕ) (ranges : List Range) (fields : List FieldDef) (s : Fieldset) : Type 0 where
  pub some : 1 ≤ s.width
  pub most : s.width ≤ 128
  pub condition : IsCondition exprs s.condition
  pub fields_end : s.fields.from + s.fields.len ≤ length fields
  pub within : EndWithin s.width ranges (spanned s.fields fields)

pub record IsRegister (exprs fieldsets entries : ℕ) (r : RegisterDef) : Type 0 where
  pub condition : IsCondition exprs r.condition
  pub few : r.fieldsets.len ≤ fieldset_limit
  pub fieldsets_end : r.fieldsets.from + r.fieldsets.len ≤ fieldsets
  pub accessors_end : r.accessors.from + r.accessors.len ≤ entries

pub record IsEntry (exprs : ℕ) (e : Entry) : Type 0 where
  pub condition : IsCondition exprs e.condition
  pub key : e.key.width ≡ 16

pub record IsDocument (doc : RegisterDoc) : Type 0 where
  pub few : length doc.registers.items ≤ register_limit
  pub few_entries : length doc.entries.items ≤ entry_limit
  pub registers : All (IsRegister (length doc.arena.exprs) (length doc.fieldsets.items) (length doc.entries.items)) doc.registers.items
  pub fieldsets : All (IsFieldset (length doc.arena.exprs) doc.ranges.items doc.fields.items) doc.fieldsets.items
  pub fields : All (IsField (length doc.arena.exprs) (length doc.ranges.items)) doc.fields.items
  pub entries : All (IsEntry (length doc.arena.exprs)) doc.entries.items
