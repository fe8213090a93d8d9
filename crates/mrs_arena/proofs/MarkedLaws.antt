-- The digits that are marked are those of the marks as a mask.
use Rattle.std.proofs.Common.{◌≡◌, ◌∙◌, sym, ap, refl, ℕ, zero, suc, min, bit_and, ◌==◌, cond, ◌∷◌, ◌<◌, ◌^◌, arith}
use Rattle.std.proofs.lemmas.Nat.Bits.{bit_at_and}
use Rattle.spec_bits.specs.Bits.{bit_of}
use Rattle.spec_bits.specs.Pattern.{Zero, One, Either}
use Rattle.spec_bits.specs.Item.{chosen_digits}
use Rattle.bit_pattern.specs.Digits.{digit_at, digits_below}
use Rattle.bit_pattern.specs.Marks.{marks_of}
use Rattle.bit_pattern.proofs.DigitLaws.{BitPair, free, fixed_0, fixed_1, BitPair-at, inside_le}

digit-marked : (m v s : ℕ) → BitPair m v → BitPair m s → cond (s == 1) (cond (m == 0) Either (cond (v == 0) Zero One)) Either ≡ cond (s == 0) Either (cond (min v s == 0) Zero One)
digit-marked m v s free free = refl
digit-marked m v s fixed_0 fixed_0 = refl
digit-marked m v s fixed_0 fixed_1 = refl
digit-marked m v s fixed_1 fixed_0 = refl
digit-marked m v s fixed_1 fixed_1 = refl

digit_at-marked : (mask value should i : ℕ) → bit_and value mask ≡ value → bit_and should mask ≡ should → cond (bit_of should i == 1) (digit_at mask value i) Either ≡ digit_at should (bit_and value should) i
digit_at-marked mask value should i inside marked =
    digit-marked (bit_of mask i) (bit_of value i) (bit_of should i) (BitPair-at mask value inside i) (BitPair-at mask should marked i)
    ∙ ap (λ b. cond (bit_of should i == 0) Either (cond (b == 0) Zero One)) (sym (bit_at_and value should i))

pub chosen_digits-marked : (mask value should n : ℕ) → bit_and value mask ≡ value → bit_and should mask ≡ should
    → chosen_digits (digits_below mask value n) (marks_of n should) ≡ digits_below should (bit_and value should) n
chosen_digits-marked mask value should zero inside marked = refl
chosen_digits-marked mask value should (suc n) inside marked =
    ap (λ d. d ∷ chosen_digits (digits_below mask value n) (marks_of n should)) (digit_at-marked mask value should n inside marked)
    ∙ ap (λ ds. digit_at should (bit_and value should) n ∷ ds) (chosen_digits-marked mask value should n inside marked)

pub marked-lt : (mask should n : ℕ) → bit_and should mask ≡ should → mask < 2 ^ n → should < 2 ^ n
marked-lt mask should n marked below = omega (arith, inside_le should mask marked)
