-- One more digit below those of a mask and a value.
use Rattle.std.proofs.Common.{◌≡◌, ◌∙◌, sym, ap, refl, ℕ, zero, suc, ◌+◌, ◌*◌, ◌%◌, ◌<◌, ◌≤◌, ◌^◌, bit_and, cond, ◌==◌, [], ◌∷◌, ◌++◌, arith, add-one}
use Rattle.std.proofs.lemmas.Nat.{and_block, div-mul-add, mod-mul-add}
use Rattle.std.proofs.lemmas.Nat.Bits.{bit_at_lowest, bit_at-suc}
use Rattle.std.proofs.Math.Pow.{pow_mono}
use Rattle.std.proofs.lemmas.Grind.{common_steps}
use Rattle.spec_bits.specs.Bits.{bit_of}
use Rattle.spec_bits.specs.Pattern.{Zero, One, Either}
use Rattle.bit_pattern.specs.Digits.{digit_at, digits_below}

-- the lowest bit is the one pushed, and the others move up
bit_of-push_lowest : (n b : ℕ) → b ≤ 1 → bit_of (n * 2 + b) 0 ≡ bit_of b 0
bit_of-push_lowest n b small =
    let below : b < 2 = omega arith in
    bit_at_lowest (n * 2 + b) ∙ mod-mul-add n 2 b below ∙ sym (mod-mul-add 0 2 b below) ∙ ap (λ x. x % 2) (zero_add b) ∙ sym (bit_at_lowest b)
  where
    zero_add : (x : ℕ) → 0 * 2 + x ≡ x
    zero_add x = omega arith

bit_of-push_higher : (n b i : ℕ) → b ≤ 1 → bit_of (n * 2 + b) (suc i) ≡ bit_of n i
bit_of-push_higher n b i small = bit_at-suc (n * 2 + b) i ∙ ap (λ x. bit_of x i) (div-mul-add n 2 b (omega arith))

digit_at-same_bits : (m v m' v' i j : ℕ) → bit_of m i ≡ bit_of m' j → bit_of v i ≡ bit_of v' j → digit_at m v i ≡ digit_at m' v' j
digit_at-same_bits m v m' v' i j same_mask same_value =
    ap (λ b. cond (b == 0) Either (cond (bit_of v i == 0) Zero One)) same_mask ∙ ap (λ b. cond (bit_of m' j == 0) Either (cond (b == 0) Zero One)) same_value

digits_below-push_suc : (mask value fixed one n : ℕ) → fixed ≤ 1 → one ≤ 1 → digits_below (mask * 2 + fixed) (value * 2 + one) (suc n) ≡ digits_below mask value n ++ digit_at fixed one 0 ∷ []
digits_below-push_suc mask value fixed one zero hf ho =
    ap (λ d. d ∷ []) (digit_at-same_bits (mask * 2 + fixed) (value * 2 + one) fixed one 0 0 (bit_of-push_lowest mask fixed hf) (bit_of-push_lowest value one ho))
digits_below-push_suc mask value fixed one (suc n) hf ho =
    ap (λ d. d ∷ digits_below (mask * 2 + fixed) (value * 2 + one) (suc n)) (digit_at-same_bits (mask * 2 + fixed) (value * 2 + one) mask value (suc n) n (bit_of-push_higher mask fixed n hf) (bit_of-push_higher value one n ho))
    ∙ ap (λ ds. digit_at mask value n ∷ ds) (digits_below-push_suc mask value fixed one n hf ho)

bits_inside : (fixed one : ℕ) → fixed ≤ 1 → one ≤ fixed → bit_and one fixed ≡ one
bits_inside fixed zero hf ho = refl
bits_inside (suc zero) (suc zero) hf ho = refl
bits_inside zero (suc one) hf ho = absurd (omega arith)
bits_inside (suc zero) (suc (suc one)) hf ho = absurd (omega arith)
bits_inside (suc (suc fixed)) one hf ho = absurd (omega arith)

-- below, m and v are the mask and the value with one more bit each

-- the digits are those before and the one that the two bits stand for
pub push_digits : (mask value fixed one n m v : ℕ) → m ≡ mask * 2 + fixed → v ≡ value * 2 + one → fixed ≤ 1 → one ≤ fixed → digits_below m v (n + 1) ≡ digits_below mask value n ++ digit_at fixed one 0 ∷ []
push_digits mask value fixed one n m v em ev hf ho = rw (em, ev, add-one) (digits_below-push_suc mask value fixed one n hf (omega arith))

-- the value stays inside the mask
pub push_inside : (mask value fixed one m v : ℕ) → m ≡ mask * 2 + fixed → v ≡ value * 2 + one → bit_and value mask ≡ value → fixed ≤ 1 → one ≤ fixed → bit_and v m ≡ v
push_inside mask value fixed one m v em ev inside hf ho =
    let pushed : bit_and (value * 2 + one) (mask * 2 + fixed) ≡ value * 2 + one =
    and_block 1 value mask one fixed (omega arith) (omega arith) ∙ ap (λ x. x * 2 + bit_and one fixed) inside ∙ ap (λ x. value * 2 + x) (bits_inside fixed one hf ho) in
    rw (em, ev) pushed

-- and the mask inside the width
pub push_fits : (mask fixed n m : ℕ) → m ≡ mask * 2 + fixed → mask < 2 ^ n → fixed ≤ 1 → m < 2 ^ (n + 1)
push_fits mask fixed n m em fits small = grind (arith, common_steps)

pub room_to_double : (mask n : ℕ) → mask < 2 ^ n → n < 128 → mask < 2 ^ 127
room_to_double mask n fits room = omega (arith, pow_mono {i = n} {j = 127} (omega arith))
