-- Worked values: thirteen leaves, of which bit 31 takes three apart from ten, and bit 30 takes two of those ten apart from eight.
use Rattle.std.specs.Prelude.{◌≡◌, ℕ, List, [], ◌∷◌, map, replicate, Some, refl}
use Rattle.spec_bits.specs.Pattern.{Digit, Zero, One, Either}
use Rattle.spec_decode.specs.Bucket.{Encoding, is_fixed, fixes_to, splits, highest_split, agreeing, next_bit, Bucket, stop, narrow}

-- the digits of bits 31 and 30, and of no others
abbrev high : Digit → Digit → List Digit
high first second = first ∷ second ∷ replicate 30 Either

abbrev leaf : ℕ → List Digit → Encoding
leaf k digits = record { leaf = k; digits = digits }

abbrev thirteen : List Encoding
thirteen =
    leaf 0 (high Zero Zero) ∷ leaf 1 (high Zero One) ∷ leaf 2 (high One Zero) ∷ leaf 3 (high One One) ∷ leaf 4 (high One One) ∷ leaf 5 (high One One) ∷ leaf 6 (high One One)
    ∷ leaf 7 (high One One) ∷ leaf 8 (high One One) ∷ leaf 9 (high One One) ∷ leaf 10 (high One One) ∷ leaf 11 (high One Zero) ∷ leaf 12 (high Zero Either) ∷ []

-- of three leaves no bit is looked at, although bit 30 tells two of them apart
low_word : Bucket 0x0000_0000 (leaf 0 (high Zero Zero) ∷ leaf 1 (high Zero One) ∷ leaf 12 (high Zero Either) ∷ []) thirteen
unfolding is_fixed fixes_to splits highest_split agreeing next_bit
low_word = narrow _ 31 refl (stop _ refl refl)

two_remain : Bucket 0x9100_0420 (leaf 2 (high One Zero) ∷ leaf 11 (high One Zero) ∷ []) thirteen
unfolding is_fixed fixes_to splits highest_split agreeing next_bit
two_remain = narrow _ 31 refl (narrow _ 30 refl (stop _ refl refl))

eight_remain : Bucket 0xd503_201f (map (λ k. leaf k (high One One)) (3 ∷ 4 ∷ 5 ∷ 6 ∷ 7 ∷ 8 ∷ 9 ∷ 10 ∷ [])) thirteen
unfolding is_fixed fixes_to splits highest_split agreeing next_bit
eight_remain = narrow _ 31 refl (narrow _ 30 refl (stop _ refl refl))

-- nine leaves of one encoding are not told apart, and so all remain
abbrev alike : List Encoding
alike = map (λ k. leaf k (high One Either)) (0 ∷ 1 ∷ 2 ∷ 3 ∷ 4 ∷ 5 ∷ 6 ∷ 7 ∷ 8 ∷ [])

all_remain : Bucket 0x0000_0000 alike alike
unfolding is_fixed fixes_to splits highest_split agreeing next_bit
all_remain = stop _ refl refl

-- a bit that one of them leaves free does not tell leaves apart
free_bit : next_bit (leaf 9 (high Zero One) ∷ leaf 10 (high Either Zero) ∷ map (λ k. leaf k (high One One)) (0 ∷ 1 ∷ 2 ∷ 3 ∷ 4 ∷ 5 ∷ 6 ∷ [])) ≡ Some 30
unfolding is_fixed fixes_to splits highest_split next_bit
free_bit = refl
