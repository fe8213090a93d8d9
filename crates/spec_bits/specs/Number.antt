-- Digits that write numbers: those without `x`.
use Rattle.std.specs.Prelude.{ℕ, zero, suc, ◌+◌, ◌*◌, ◌^◌, ◌==◌, List, [], ◌∷◌, length, if◌then◌else◌, Option, Some, option_map, option_and_then}
use Rattle.spec_bits.specs.Bits.{bit_of}
use Rattle.spec_bits.specs.Pattern.{Digit, Zero, One, digit_value}

-- the lowest n bits of a number as digits, the highest first
abbrev pub low_digits : ℕ → ℕ → List Digit
low_digits zero w = []
low_digits (suc n) w = (if bit_of w n == 1 then One else Zero) ∷ low_digits n w

-- the number that digits write, where none of them is `x`
abbrev pub number_of : List Digit → Option ℕ
number_of [] = Some 0
number_of (d ∷ ds) = option_and_then (λ bit. option_map (λ n. bit * 2 ^ length ds + n) (number_of ds)) (digit_value d)
