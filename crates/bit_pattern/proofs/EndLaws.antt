-- Digits end to end, and a part of them, by masks and values.
use Rattle.std.proofs.Common.{◌≡◌, ◌∙◌, refl, sym, ap, ap₂, ℕ, zero, suc, ◌+◌, ◌*◌, ◌-◌, ◌/◌, ◌%◌, ◌^◌, ◌<◌, ◌≤◌, bit_and, bit_or, ◌==◌, cond, ◌∷◌, ◌++◌, drop, take, slice_range, arith, mod-eq_of_lt}
use Rattle.std.proofs.lemmas.Nat.{or_shifted, and_block, mul-add-lt, pow-add, shl_below, and_shr, and_mod, shr-shr}
use Rattle.std.proofs.lemmas.Nat.Bits.{bit_at_cat_low, bit_at_cat_high}
use Rattle.std.proofs.Math.Pow.{pow_mono}
use Rattle.spec_bits.specs.Bits.{bit_of, slice}
use Rattle.spec_bits.specs.Pattern.{Zero, One, Either}
use Rattle.spec_bits.proofs.BitLaws.{bit_of-slice}
use Rattle.bit_pattern.specs.Digits.{digit_at, digits_below}

-- `high << width | low`
pub shifted_beside : (high low width : ℕ) → high * 2 ^ width < 2 ^ 128 → low < 2 ^ width → bit_or (high * 2 ^ width % 340282366920938463463374607431768211456) low ≡ high * 2 ^ width + low
shifted_beside high low width fits below = ap (λ x. bit_or x low) (mod-eq_of_lt fits) ∙ or_shifted high width low below

-- digits with the same bits are the same
digits_below-same : (m v m' v' n : ℕ) → ((i : ℕ) → i < n → bit_of m i ≡ bit_of m' i) → ((i : ℕ) → i < n → bit_of v i ≡ bit_of v' i) → digits_below m v n ≡ digits_below m' v' n
digits_below-same m v m' v' zero masks values = refl
digits_below-same m v m' v' (suc n) masks values =
    ap₂ (λ a ds. cond (a == 0) Either (cond (bit_of v n == 0) Zero One) ∷ ds) (masks n (omega arith)) (digits_below-same m v m' v' n (λ i below. masks i (omega (arith, below))) (λ i below. values i (omega (arith, below))))
    ∙ ap (λ b. cond (bit_of m' n == 0) Either (cond (b == 0) Zero One) ∷ digits_below m' v' n) (values n (omega arith))

-- ---- end to end

module _ (m v k : ℕ) (below : m < 2 ^ k) (inside : v < 2 ^ k) where
  high_digit : (mask value n : ℕ) → digit_at (mask * 2 ^ k + m) (value * 2 ^ k + v) (n + k) ≡ digit_at mask value n
  high_digit mask value n =
      let place : n + k - k ≡ n = omega arith in
      ap₂ (λ a b. cond (a == 0) Either (cond (b == 0) Zero One))
      (bit_at_cat_high mask k m (n + k) below (omega arith) ∙ ap (bit_of mask) place)
      (bit_at_cat_high value k v (n + k) inside (omega arith) ∙ ap (bit_of value) place)

  beside_digits : (mask value n : ℕ) → digits_below (mask * 2 ^ k + m) (value * 2 ^ k + v) (n + k) ≡ digits_below mask value n ++ digits_below m v k
  beside_digits mask value zero =
      let none : 0 + k ≡ k = omega arith in
      ap (digits_below (mask * 2 ^ k + m) (value * 2 ^ k + v)) none
      ∙ digits_below-same (mask * 2 ^ k + m) (value * 2 ^ k + v) m v k (λ i low. bit_at_cat_low mask k m i low) (λ i low. bit_at_cat_low value k v i low)
  beside_digits mask value (suc n) =
      let more : suc n + k ≡ suc (n + k) = omega arith in
      ap (digits_below (mask * 2 ^ k + m) (value * 2 ^ k + v)) more
      ∙ ap₂ (λ d ds. d ∷ ds) (high_digit mask value n) (beside_digits mask value n)

pub digits-beside : (mask value n m v k big_mask big_value : ℕ) → m < 2 ^ k → v < 2 ^ k → big_mask ≡ mask * 2 ^ k + m → big_value ≡ value * 2 ^ k + v
    → digits_below big_mask big_value (n + k) ≡ digits_below mask value n ++ digits_below m v k
digits-beside mask value n m v k big_mask big_value below inside is has = rw (is, has) (beside_digits m v k below inside mask value n)

pub beside_fits : (mask n m k big : ℕ) → mask < 2 ^ n → m < 2 ^ k → big ≡ mask * 2 ^ k + m → big < 2 ^ (n + k)
beside_fits mask n m k big fits below is = omega (arith, is, mul-add-lt mask (2 ^ k) m (2 ^ n) fits below, pow-add 2 n k)

pub beside_inside : (mask value m v k big_mask big_value : ℕ) → m < 2 ^ k → v < 2 ^ k → big_mask ≡ mask * 2 ^ k + m → big_value ≡ value * 2 ^ k + v
    → bit_and value mask ≡ value → bit_and v m ≡ v → bit_and big_value big_mask ≡ big_value
beside_inside mask value m v k big_mask big_value below low is has inside within =
    rw (is, has) (and_block k value mask v m low below ∙ ap₂ (λ a b. a * 2 ^ k + b) inside within)

pub room_beside : (mask n k : ℕ) → mask < 2 ^ n → n + k ≤ 128 → mask * 2 ^ k < 2 ^ 128
room_beside mask n k fits room = omega (arith, shl_below mask n k fits, pow_mono {i = n + k} {j = 128} room)

-- ---- a part

-- the lowest m of j + m digits, and the highest k of k + m
drop-digits_below : (j n m mask value : ℕ) → n ≡ j + m → drop j (digits_below mask value n) ≡ digits_below mask value m
drop-digits_below zero n m mask value e = let same : n ≡ m = omega (arith, e) in ap (digits_below mask value) same
drop-digits_below (suc j) zero m mask value e = absurd (omega (arith, e))
drop-digits_below (suc j) (suc n) m mask value e = drop-digits_below j n m mask value (omega (arith, e))

upper_bit : (w n m k : ℕ) → n ≡ m + k → bit_of w n ≡ bit_of (w / 2 ^ m) k
upper_bit w n m k split = rw split (ap (λ x. x % 2) (sym (shr-shr w m k)))

take-digits_below : (k n m mask value : ℕ) → n ≡ k + m → take k (digits_below mask value n) ≡ digits_below (mask / 2 ^ m) (value / 2 ^ m) k
take-digits_below zero n m mask value e = refl
take-digits_below (suc k) zero m mask value e = absurd (omega (arith, e))
take-digits_below (suc k) (suc n) m mask value e =
    let split : n ≡ m + k = omega (arith, e) in
    ap₂ (λ d ds. d ∷ ds)
    (ap₂ (λ a b. cond (a == 0) Either (cond (b == 0) Zero One)) (upper_bit mask n m k split) (upper_bit value n m k split))
    (take-digits_below k n m mask value (omega (arith, e)))

low_bits : (w start width i : ℕ) → i < width → bit_of (w / 2 ^ start) i ≡ bit_of (slice w start width) i
low_bits w start width i below = ap (λ x. x % 2) (shr-shr w start i) ∙ sym (bit_of-slice w start width i below)

pub digits-part : (mask value n start width : ℕ) → start + width ≤ n → digits_below (slice mask start width) (slice value start width) width ≡ slice_range (digits_below mask value n) (n - (start + width)) (n - start)
digits-part mask value n start width fits =
    let count : n - start - (n - (start + width)) ≡ width = omega (arith, fits) in
    let cut : n ≡ n - (start + width) + (start + width) = omega (arith, fits) in
    let rest : start + width ≡ width + start = omega arith in
    sym (rw (count, drop-digits_below (n - (start + width)) n (start + width) mask value cut) (take-digits_below width (start + width) start mask value rest
    ∙ digits_below-same (mask / 2 ^ start) (value / 2 ^ start) (slice mask start width) (slice value start width) width (low_bits mask start width) (low_bits value start width)))

pub part_inside : (mask value start width : ℕ) → bit_and value mask ≡ value → bit_and (slice value start width) (slice mask start width) ≡ slice value start width
part_inside mask value start width inside =
    sym (and_mod (value / 2 ^ start) (mask / 2 ^ start) width) ∙ ap (λ x. x % 2 ^ width) (sym (and_shr value mask start) ∙ ap (λ x. x / 2 ^ start) inside)
