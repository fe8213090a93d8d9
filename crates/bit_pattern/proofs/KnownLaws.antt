-- A pattern without `x` has a mask of ones, and its value is its number.
use Rattle.std.proofs.Common.{◌≡◌, ◌≢◌, ◌∙◌, refl, sym, ap, ap₂, ℕ, zero, suc, ◌+◌, ◌*◌, ◌-◌, ◌/◌, ◌%◌, ◌^◌, ◌<◌, ◌≤◌, bit_and, ◌==◌, cond, ◌∷◌, length, Option, Some, None, option_map, option_and_then, arith, pow_pos, mod-eq_of_lt}
use Rattle.std.proofs.Math.Nat.{pow-succ', mod-one}
use Rattle.std.proofs.lemmas.Nat.{and_mask}
use Rattle.std.proofs.lemmas.Nat.Bits.{ones_shr, bit_at_ones}
use Rattle.spec_bits.specs.Bits.{bit_of, slice}
use Rattle.spec_bits.specs.Pattern.{Zero, One, Either, digit_value}
use Rattle.spec_bits.specs.Number.{low_digits, number_of}
use Rattle.spec_bits.proofs.BitLaws.{bit_of-lt, mod-bit, slice-lt}
use Rattle.spec_bits.proofs.NumberLaws.{number_of-low_digits}
use Rattle.bit_pattern.specs.Digits.{digit_at, digits_below}
use Rattle.bit_pattern.proofs.DigitLaws.{inside_le}

-- `u128::MAX >> (128 - width)` has the low `width` bits
pub shifted_ones : (width : ℕ) → width ≤ 128 → 340282366920938463463374607431768211455 / 2 ^ (128 - width) ≡ 2 ^ width - 1
shifted_ones width fits =
    let back : 128 - (128 - width) ≡ width = omega arith in
    ones_shr 128 (128 - width) (omega arith) ∙ ap (λ k. 2 ^ k - 1) back

pub ones_fit : (n mask : ℕ) → mask ≡ 2 ^ n - 1 → mask < 2 ^ n
ones_fit n mask is = omega (arith, is, pow_pos n)

pub slice_in_ones : (bits start n mask value : ℕ) → mask ≡ 2 ^ n - 1 → value ≡ slice bits start n → bit_and value mask ≡ value
slice_in_ones bits start n mask value is has = rw (is, has) (and_mask (slice bits start n) n ∙ mod-eq_of_lt (slice-lt bits start n))

-- ---- under a mask of ones each digit is the value's bit

known_bit : (m v : ℕ) → m ≡ 1 → v < 2 → cond (m == 0) Either (cond (v == 0) Zero One) ≡ cond (v == 1) One Zero
known_bit m zero is below = rw is refl
known_bit m (suc zero) is below = rw is refl
known_bit m (suc (suc v)) is below = absurd (omega (arith, below))

digits_below-known : (mask value n : ℕ) → ((i : ℕ) → i < n → bit_of mask i ≡ 1) → digits_below mask value n ≡ low_digits n value
digits_below-known mask value zero each = refl
digits_below-known mask value (suc n) each =
    ap₂ (λ d ds. d ∷ ds) (known_bit (bit_of mask n) (bit_of value n) (each n (omega arith)) (bit_of-lt value n)) (digits_below-known mask value n (λ i below. each i (omega (arith, below))))

pub digits_below-ones : (mask value n : ℕ) → mask ≡ 2 ^ n - 1 → digits_below mask value n ≡ low_digits n value
digits_below-ones mask value n is = digits_below-known mask value n (λ i below. ap (λ m. bit_of m i) is ∙ bit_at_ones n i below)

pub number-ones : (mask value n : ℕ) → mask ≡ 2 ^ n - 1 → mask < 2 ^ n → bit_and value mask ≡ value → Some value ≡ number_of (digits_below mask value n)
number-ones mask value n is fits inside =
    let below : value < 2 ^ n = omega (arith, inside_le value mask inside, fits) in
    sym (ap number_of (digits_below-ones mask value n is) ∙ number_of-low_digits n value ∙ ap Some (mod-eq_of_lt below))

-- ---- under any other mask some digit is `x`

no_rest : (c : ℕ) (d : Option ℕ) (rest : Option ℕ) → rest ≡ None → option_and_then (λ bit. option_map (λ n. bit * c + n) rest) d ≡ None
no_rest c (Some bit) rest none = rw none refl
no_rest c None rest none = refl

no_number : (mask value n : ℕ) → mask % 2 ^ n ≢ 2 ^ n - 1 → number_of (digits_below mask value n) ≡ None
no_number mask value zero other = absurd (other (mod-one mask))
no_number mask value (suc n) other = go (bit_of mask n) refl (bit_of-lt mask n) (no_number mask value n)
  where
    go : (b : ℕ) → bit_of mask n ≡ b → b < 2 → (mask % 2 ^ n ≢ 2 ^ n - 1 → number_of (digits_below mask value n) ≡ None) → number_of (digits_below mask value (suc n)) ≡ None
    go zero is below further = rw is refl
    go (suc zero) is below further =
        no_rest (2 ^ length (digits_below mask value n)) (digit_value (digit_at mask value n)) (number_of (digits_below mask value n))
        (further (λ e. other (let split : mask % 2 ^ suc n ≡ 1 * 2 ^ n + mask % 2 ^ n = mod-bit mask n ∙ ap (λ b. b * 2 ^ n + mask % 2 ^ n) is in omega (arith, split, e, pow-succ' 2 n, pow_pos n))))
    go (suc (suc b)) is below further = absurd (omega (arith, below))

pub number-others : (mask value n : ℕ) → mask ≢ 2 ^ n - 1 → mask < 2 ^ n → None ≡ number_of (digits_below mask value n)
number-others mask value n other fits = sym (no_number mask value n (λ e. other (sym (mod-eq_of_lt fits) ∙ e)))
