-- Registers of the architecture. A name is of some type; in a document it is its text.
use Rattle.std.specs.Prelude.{ℕ, List, flat_map, sum_by, Option}
use Rattle.spec_bits.specs.Pattern.{Digit}
use Rattle.spec_instructions.specs.Encodeset.{Range}
use Rattle.spec_expressions.specs.Expression.{ExprOf}

-- a field: its name, the ranges of bits that it is made of, and when it is there. An absent condition is true, here and below
pub record FieldOf (N : Type 0) : Type 0 where
  pub name : N
  pub ranges : List Range
  pub condition : Option (ExprOf N)

-- a layout of a register: how many bits it has, when it is the register's, and its fields
pub record FieldsetOf (N : Type 0) : Type 0 where
  pub width : ℕ
  pub condition : Option (ExprOf N)
  pub fields : List (FieldOf N)

-- MRS reads a register of the system, and MSR writes it
pub data Direction : Type 0 where
  Read : Direction
  Write : Direction

-- an accessor entry: a way to access the register. The name is the one that is printed, and the key the digits of op0, op1, CRn, CRm and op2
pub record EntryOf (N : Type 0) : Type 0 where
  pub direction : Direction
  pub name : N
  pub condition : Option (ExprOf N)
  pub key : List Digit

pub record RegisterOf (N : Type 0) : Type 0 where
  pub name : N
  pub condition : Option (ExprOf N)
  pub fieldsets : List (FieldsetOf N)
  pub entries : List (EntryOf N)

-- registers, how many arrays and blocks of registers stand beside them unread, and how many accessors of the registers are passed over
pub record RegistersOf (N : Type 0) : Type 0 where
  pub registers : List (RegisterOf N)
  pub arrays : ℕ
  pub blocks : ℕ
  pub passed : ℕ

-- all that these give, one behind the other
abbrev pub together : {N : Type 0} → List (RegistersOf N) → RegistersOf N
together parts = record {
  registers = flat_map (λ p. p.registers) parts;
  arrays = sum_by (λ p. p.arrays) parts;
  blocks = sum_by (λ p. p.blocks) parts;
  passed = sum_by (λ p. p.passed) parts;
}

-- all accessor entries of registers
abbrev pub entries_of : {N : Type 0} → List (RegisterOf N) → List (EntryOf N)
entries_of registers = flat_map (λ r. r.entries) registers

-- ---- over texts

abbrev pub Field : Type 0
Field = FieldOf (List ℕ)

abbrev pub Fieldset : Type 0
Fieldset = FieldsetOf (List ℕ)

abbrev pub Entry : Type 0
Entry = EntryOf (List ℕ)

abbrev pub Register : Type 0
Register = RegisterOf (List ℕ)

abbrev pub Registers : Type 0
Registers = RegistersOf (List ℕ)
