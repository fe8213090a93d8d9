-- Marks of digits, as the bits of a number.
use Rattle.std.specs.Prelude.{ℕ, zero, suc, ◌==◌, Bool, List, [], ◌∷◌}
use Rattle.spec_bits.specs.Bits.{bit_of}

-- a mark for each bit below a width, the highest first: whether the number has the bit
abbrev pub marks_of : ℕ → ℕ → List Bool
marks_of zero marks = []
marks_of (suc n) marks = (bit_of marks n == 1) ∷ marks_of n marks
