-- Masks: numbers by the bits that they have.
use Rattle.std.specs.Prelude.{ℕ, ◌==◌, ◌≡◌, ◌<◌, Bool, List, Option, Some, None, if◌then◌else◌}
use Rattle.spec_bits.specs.Bits.{bit_of}
use Rattle.spec_encoding.specs.Parts.{Part, some_gives}

-- a number has bit i
abbrev pub has_bit : ℕ → ℕ → Bool
has_bit m i = bit_of m i == 1

-- the bits below bit 32 that a number has are those that pass a test
abbrev pub IsMask : ℕ → (ℕ → Bool) → Type 0
IsMask m test = (i : ℕ) → i < 32 → has_bit m i ≡ test i

-- a mask and a value fix bit i where the mask has it, to the value's bit
abbrev pub fixed_by : ℕ → ℕ → ℕ → Option ℕ
fixed_by mask value i = if bit_of mask i == 0 then None else Some (bit_of value i)

-- the ones and zeros that parts give
pub record GivesParts (ps : List Part) (given_ones given_zeros : ℕ) : Type 0 where
  pub ones : IsMask given_ones (λ i. some_gives ps i 1)
  pub zeros : IsMask given_zeros (λ i. some_gives ps i 0)
