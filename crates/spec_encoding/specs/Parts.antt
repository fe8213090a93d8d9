-- Parts of a word: fields that are given values, and what these say of each bit.
use Rattle.std.specs.Prelude.{ℕ, zero, suc, ◌+◌, ◌-◌, ◌*◌, ◌^◌, ◌==◌, Bool, ◌&&◌, nat_lt, nat_le, List, Option, Some, None, if◌then◌else◌}
use Rattle.std.specs.List.{list_any}
use Rattle.spec_bits.specs.Bits.{bit_of}

-- a field, as its lowest bit and how many bits it has, with the value that it is given
pub record Part : Type 0 where
  pub start : ℕ
  pub width : ℕ
  pub value : ℕ

-- bit i is one of the `width` bits from bit `start` up
abbrev pub covers : ℕ → ℕ → ℕ → Bool
covers start width i = nat_le start i && nat_lt i (start + width)

-- a part gives bit i the value b: it covers the bit, and b is that bit of its value
abbrev pub gives : ℕ → ℕ → Part → Bool
gives i b p = covers p.start p.width i && bit_of p.value (i - p.start) == b

abbrev pub some_gives : List Part → ℕ → ℕ → Bool
some_gives ps i b = list_any (gives i b) ps

-- two parts give bit i different values
abbrev pub is_clash : List Part → ℕ → Bool
is_clash ps i = some_gives ps i 0 && some_gives ps i 1

-- a part's value does not fit its width
abbrev pub is_too_wide : Part → Bool
is_too_wide p = nat_le (2 ^ p.width) p.value

-- ---- bits and numbers

-- the highest bit below bit n that passes a test
unfoldable pub highest : (ℕ → Bool) → ℕ → Option ℕ
highest test zero = None
highest test (suc n) = if test n then Some n else highest test n

-- the number whose bits below bit n are these
unfoldable pub number_of_bits : (ℕ → ℕ) → ℕ → ℕ
number_of_bits bit zero = 0
number_of_bits bit (suc n) = bit n * 2 ^ n + number_of_bits bit n
