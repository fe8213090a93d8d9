-- Whole numbers as numbers of bits.
use Rattle.std.specs.Prelude.{ℕ, ℤ, pos, negsuc, nat_lt, if◌then◌else◌, Option, Some, None}

-- a whole number as the number of a bit, where it is one of 256
abbrev pub bit_number : ℤ → Option ℕ
bit_number (pos n) = if nat_lt n 256 then Some n else None
bit_number (negsuc n) = None
