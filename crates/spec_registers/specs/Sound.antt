-- What holds of the registers of every document that is accepted.
use Rattle.std.specs.Prelude.{◌≡◌, ◌≤◌, ℕ, List, length, true, Ok}
use Rattle.std.specs.List.{AllByRecursion}
use Rattle.serde_json.specs.Data.{Data}
use Rattle.spec_walk.specs.Limits.{Counts}
use Rattle.spec_registers.specs.Name.{is_wide_name}
use Rattle.spec_registers.specs.Limits.{register_limit, fieldset_limit, entry_limit, width_limit}
use Rattle.spec_registers.specs.Registers.{FieldOf, FieldsetOf, Field, Fieldset, Entry, Register, Registers, entries_of}
use Rattle.spec_registers.specs.Gaps.{IsWithin}
use Rattle.spec_registers.specs.Reading.{registers_read}

pub record HasSoundRanges {N : Type 0} (bits : ℕ) (f : FieldOf N) : Type 0 where
  pub ranges : AllByRecursion (IsWithin bits) f.ranges

-- a fieldset has 1 to 128 bits, and the ranges of its fields lie within them
pub record IsSoundFieldset {N : Type 0} (fs : FieldsetOf N) : Type 0 where
  pub some : 1 ≤ fs.width
  pub most : fs.width ≤ width_limit
  pub fields : AllByRecursion (HasSoundRanges fs.width) fs.fields

-- a field's name is a wide name
pub record HasFieldNames (fs : Fieldset) : Type 0 where
  pub names : AllByRecursion (λ (f : Field). is_wide_name f.name ≡ true) fs.fields

-- a key has 16 digits
pub record IsSoundEntry (e : Entry) : Type 0 where
  pub name : is_wide_name e.name ≡ true
  pub key : length e.key ≡ 16

pub record IsSoundRegister (r : Register) : Type 0 where
  pub name : is_wide_name r.name ≡ true
  pub few : length r.fieldsets ≤ fieldset_limit
  pub fieldsets : AllByRecursion (λ (fs : Fieldset). IsSoundFieldset fs × HasFieldNames fs) r.fieldsets
  pub entries : AllByRecursion IsSoundEntry r.entries

-- so it is with each register, and there are no more registers and entries than there may be
pub record AreSound (found : Registers) : Type 0 where
  pub few : length found.registers ≤ register_limit
  pub few_entries : length (entries_of found.registers) ≤ entry_limit
  pub each : AllByRecursion IsSoundRegister found.registers

abbrev pub RegistersAreSound : Type 0
RegistersAreSound = (held : List (List ℕ)) (d : Data) (found : Registers) (counts : Counts) → registers_read held d ≡ Ok (found, counts) → AreSound found
