-- Patterns of bits: lists of digits, written `'10x'` in Arm's pseudocode. The first digit stands for the highest bit.
use Rattle.std.specs.Prelude.{ℕ, Bool, true, ◌&&◌, ◌==◌, List, [], ◌∷◌, length, Option, Some, None, if◌then◌else◌, option_and_then, option_map}
use Rattle.spec_bits.specs.Bits.{bit_of}

-- the digits `0`, `1` and `x`; the last stands for a bit of either value
pub data Digit : Type 0 where
  Zero : Digit
  One : Digit
  Either : Digit

-- a digit holds of a bit: `0` and `1` equal it
abbrev pub digit_holds : Digit → ℕ → Bool
digit_holds Zero bit = bit == 0
digit_holds One bit = bit == 1
digit_holds Either bit = true

-- a pattern holds of a number: each digit holds of its bit. In a list of n digits the first stands for bit n - 1
abbrev pub pattern_holds : List Digit → ℕ → Bool
pattern_holds [] w = true
pattern_holds (d ∷ ds) w = digit_holds d (bit_of w (length ds)) && pattern_holds ds w

-- the digit that stands for bit i, if there is one
abbrev pub digit_for : List Digit → ℕ → Option Digit
digit_for [] i = None
digit_for (d ∷ ds) i = if i == length ds then Some d else digit_for ds i

-- the value to which a digit fixes its bit
abbrev pub digit_value : Digit → Option ℕ
digit_value Zero = Some 0
digit_value One = Some 1
digit_value Either = None

-- the value to which a pattern fixes bit i
abbrev pub value_at : List Digit → ℕ → Option ℕ
value_at ds i = option_and_then digit_value (digit_for ds i)

-- two digits for one bit as one digit: fixed where either is, and none where the two are fixed and differ
abbrev pub joined_digit : Digit → Digit → Option Digit
joined_digit Either e = Some e
joined_digit Zero One = None
joined_digit Zero e = Some Zero
joined_digit One Zero = None
joined_digit One e = Some One

-- two patterns of one width as one pattern, joined digit by digit: none where a bit fixed in both differs
abbrev pub joined : List Digit → List Digit → Option (List Digit)
joined [] [] = Some []
joined [] (e ∷ es) = None
joined (d ∷ ds) [] = None
joined (d ∷ ds) (e ∷ es) = option_and_then (λ j. option_map (λ js. j ∷ js) (joined ds es)) (joined_digit d e)
