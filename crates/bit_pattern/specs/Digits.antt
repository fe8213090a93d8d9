-- The digits that a mask and a value stand for.
use Rattle.std.specs.Prelude.{ℕ, zero, suc, ◌==◌, List, [], ◌∷◌, if◌then◌else◌}
use Rattle.spec_bits.specs.Bits.{bit_of}
use Rattle.spec_bits.specs.Pattern.{Digit, Zero, One, Either}

-- the digit of bit i: fixed where the mask has the bit, to the value's bit
abbrev pub digit_at : ℕ → ℕ → ℕ → Digit
digit_at mask value i = if bit_of mask i == 0 then Either else (if bit_of value i == 0 then Zero else One)

-- the digits of the bits below a width, the highest first
abbrev pub digits_below : ℕ → ℕ → ℕ → List Digit
digits_below mask value zero = []
digits_below mask value (suc n) = digit_at mask value n ∷ digits_below mask value n
