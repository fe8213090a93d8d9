-- Laws of should-be marks: the digits that are not marked are those of a smaller mask.
use Rattle.std.proofs.Common.{◌≡◌, ◌∙◌, sym, ap, refl, ℕ, zero, suc, ◌+◌, ◌%◌, ◌<◌, ◌^◌, min, bit_and, bit_xor, not, ◌==◌, cond, Bool, List, ◌∷◌, length, map, ◌/◌, arith}
use Rattle.std.proofs.lemmas.Nat.Bits.{bit_at_and, bit_at_xor, bit_at-lt, same_from_bits}
use Rattle.spec_bits.specs.Bits.{bit_of, slice}
use Rattle.spec_bits.specs.Pattern.{Digit, Zero, One, Either, pattern_holds}
use Rattle.spec_bits.specs.Item.{chosen_digits}
use Rattle.spec_bits.proofs.PatternLaws.{pattern_holds-mod}
use Rattle.spec_bits.proofs.ItemLaws.{length-chosen_digits}
use Rattle.bit_pattern.specs.Digits.{digit_at, digits_below}
use Rattle.bit_pattern.proofs.DigitLaws.{BitPair, free, fixed_0, fixed_1, BitPair-at, inside_le}
use Rattle.bit_pattern.specs.Marks.{marks_of}

pub length-marks_of : (n marks : ℕ) → length (marks_of n marks) ≡ n
length-marks_of zero marks = refl
length-marks_of (suc n) marks = ap suc (length-marks_of n marks)

-- the mask's bits that are not marked, as the code has them
abbrev pub unmarked : ℕ → ℕ → ℕ
unmarked mask should = bit_xor mask (bit_and mask should)

bit_of-unmarked : (mask should i : ℕ) → bit_of (unmarked mask should) i ≡ (bit_of mask i + min (bit_of mask i) (bit_of should i)) % 2
bit_of-unmarked mask should i = bit_at_xor mask (bit_and mask should) i ∙ ap (λ b. (bit_of mask i + b) % 2) (bit_at_and mask should i)

-- one bit, marked or not
data Mark : ℕ → Type 0 where
  plain : Mark 0
  marked : Mark 1

Mark-from : (s : ℕ) → s < 2 → Mark s
Mark-from zero h = plain
Mark-from (suc zero) h = marked
Mark-from (suc (suc s)) h = absurd (omega arith)

digit-unmarked : (m v s : ℕ) → BitPair m v → Mark s → cond (not (s == 1)) (cond (m == 0) Either (cond (v == 0) Zero One)) Either
    ≡ cond ((m + min m s) % 2 == 0) Either (cond (min v ((m + min m s) % 2) == 0) Zero One)
digit-unmarked m v s free plain = refl
digit-unmarked m v s free marked = refl
digit-unmarked m v s fixed_0 plain = refl
digit-unmarked m v s fixed_0 marked = refl
digit-unmarked m v s fixed_1 plain = refl
digit-unmarked m v s fixed_1 marked = refl

digit_at-unmarked : (mask value should i : ℕ) → bit_and value mask ≡ value
    → cond (not (bit_of should i == 1)) (digit_at mask value i) Either ≡ digit_at (unmarked mask should) (bit_and value (unmarked mask should)) i
digit_at-unmarked mask value should i inside =
    let low = bit_of-unmarked mask should i in
    digit-unmarked (bit_of mask i) (bit_of value i) (bit_of should i) (BitPair-at mask value inside i) (Mark-from (bit_of should i) (bit_at-lt should i))
    ∙ ap (λ b. cond (b == 0) Either (cond (min (bit_of value i) b == 0) Zero One)) (sym low)
    ∙ ap (λ b. cond (bit_of (unmarked mask should) i == 0) Either (cond (b == 0) Zero One)) (sym (bit_at_and value (unmarked mask should) i))

-- the digits that are not marked
pub chosen_digits-unmarked : (mask value should n : ℕ) → bit_and value mask ≡ value
    → chosen_digits (digits_below mask value n) (map not (marks_of n should)) ≡ digits_below (unmarked mask should) (bit_and value (unmarked mask should)) n
chosen_digits-unmarked mask value should zero inside = refl
chosen_digits-unmarked mask value should (suc n) inside =
    ap (λ d. d ∷ chosen_digits (digits_below mask value n) (map not (marks_of n should))) (digit_at-unmarked mask value should n inside)
    ∙ ap (λ ds. digit_at (unmarked mask should) (bit_and value (unmarked mask should)) n ∷ ds) (chosen_digits-unmarked mask value should n inside)

unmarked-bit : (m s : ℕ) → Mark m → Mark s → min ((m + min m s) % 2) m ≡ (m + min m s) % 2
unmarked-bit m s plain plain = refl
unmarked-bit m s plain marked = refl
unmarked-bit m s marked plain = refl
unmarked-bit m s marked marked = refl

unmarked-inside : (mask should : ℕ) → bit_and (unmarked mask should) mask ≡ unmarked mask should
unmarked-inside mask should = same_from_bits (bit_and (unmarked mask should) mask) (unmarked mask should) each
  where
    each : (i : ℕ) → bit_of (bit_and (unmarked mask should) mask) i ≡ bit_of (unmarked mask should) i
    each i =
        bit_at_and (unmarked mask should) mask i
        ∙ ap (λ b. min b (bit_of mask i)) (bit_of-unmarked mask should i)
        ∙ unmarked-bit (bit_of mask i) (bit_of should i) (Mark-from (bit_of mask i) (bit_at-lt mask i)) (Mark-from (bit_of should i) (bit_at-lt should i))
        ∙ sym (bit_of-unmarked mask should i)

pub unmarked-lt : (mask should n : ℕ) → mask < 2 ^ n → unmarked mask should < 2 ^ n
unmarked-lt mask should n below = omega (arith, inside_le (unmarked mask should) mask (unmarked-inside mask should))

pub and_inside : (value mask : ℕ) → bit_and (bit_and value mask) mask ≡ bit_and value mask
and_inside value mask = same_from_bits (bit_and (bit_and value mask) mask) (bit_and value mask) each
  where
    each : (i : ℕ) → bit_of (bit_and (bit_and value mask) mask) i ≡ bit_of (bit_and value mask) i
    each i =
        let twice : min (min (bit_of value i) (bit_of mask i)) (bit_of mask i) ≡ min (bit_of value i) (bit_of mask i) = omega arith in
        bit_at_and (bit_and value mask) mask i ∙ ap (λ b. min b (bit_of mask i)) (bit_at_and value mask i) ∙ twice ∙ sym (bit_at_and value mask i)

-- digits look at no bit above their own
pub pattern_holds-slice : (ds : List Digit) (choices : List Bool) (w start : ℕ) → pattern_holds (chosen_digits ds choices) (w / 2 ^ start) ≡ pattern_holds (chosen_digits ds choices) (slice w start (length ds))
pattern_holds-slice ds choices w start = sym (pattern_holds-mod (chosen_digits ds choices) (w / 2 ^ start) (length ds) (omega (arith, length-chosen_digits ds choices)))
