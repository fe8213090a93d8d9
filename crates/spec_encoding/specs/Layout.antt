-- What is known of the bits of words before fields are given values, and the rest of a word, which is in no field.
use Rattle.std.specs.Prelude.{ℕ, ◌+◌, ◌-◌, ◌%◌, ◌==◌, Bool, false, not, ◌&&◌, List, Option, Some, None, is_none, unwrap_or, if◌then◌else◌}
use Rattle.spec_bits.specs.Bits.{bit_of}
use Rattle.spec_encoding.specs.Parts.{Part, some_gives, number_of_bits}

-- of bit i: the value to which it is fixed; whether it is free, which is to be neither fixed nor in a field; and its default then
pub record Layout : Type 0 where
  pub fixed : ℕ → Option ℕ
  pub free : ℕ → Bool
  pub default : ℕ → ℕ

-- a free bit of a word against its default: 1 where the two differ. It is its own inverse
abbrev pub flipped : Layout → ℕ → ℕ → ℕ
flipped l w i = if l.free i then (bit_of w i + l.default i) % 2 else 0

-- the rest of a word: its free bits against their defaults
abbrev pub rest_in : Layout → ℕ → ℕ
rest_in l w = number_of_bits (flipped l w) 32

-- a part gives a bit another value than the one to which it is fixed
abbrev pub is_against : List Part → ℕ → Option ℕ → Bool
is_against ps i None = false
is_against ps i (Some b) = some_gives ps i (1 - b)

abbrev pub is_misfixed : Layout → List Part → ℕ → Bool
is_misfixed l ps i = is_against ps i (l.fixed i)

-- a rest has a bit that is not free
abbrev pub is_stray : Layout → ℕ → ℕ → Bool
is_stray l rest i = bit_of rest i == 1 && not (l.free i)

-- ---- the word's 32 bits alone

-- a layout as four numbers, of 32 bits each: which bits are fixed and to what, which are free, and the defaults of those
pub record LayoutNumbers : Type 0 where
  pub mask : ℕ
  pub value : ℕ
  pub free : ℕ
  pub default : ℕ

abbrev pub numbers : Layout → LayoutNumbers
numbers l = record {
  mask = number_of_bits (λ i. if is_none (l.fixed i) then 0 else 1) 32;
  value = number_of_bits (λ i. unwrap_or (l.fixed i) 0) 32;
  free = number_of_bits (λ i. if l.free i then 1 else 0) 32;
  default = number_of_bits (λ i. if l.free i then l.default i else 0) 32;
}
