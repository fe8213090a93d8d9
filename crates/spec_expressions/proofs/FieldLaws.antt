-- The bits of a field write the slice of the word.
use Rattle.std.proofs.Common.{◌≡◌, ◌∙◌, refl, ap, ℕ, zero, suc, ◌+◌, ◌/◌, ◌%◌, ◌^◌, ◌<◌, ◌==◌, true, List, ◌∷◌, length, Some, arith, pow_pos, mod-lt, mod-eq_of_lt, sym, ap₂, ◌-◌, ◌≤◌, drop, take, slice_range, pos, nat_le, nat_lt}
use Rattle.std.specs.Prelude.{if◌then◌else◌}
use Rattle.std.proofs.lemmas.Nat.{shr-shr}
use Rattle.spec_bits.proofs.BitLaws.{bit_of-slice}
use Rattle.spec_bits.proofs.NumberLaws.{low_digits-length, number_of-low_digits}
use Rattle.std.proofs.lemmas.Bool.Decides.{nat_tests}
use Rattle.spec_bits.specs.Bits.{bit_of, slice}
use Rattle.spec_bits.specs.Pattern.{Digit, Zero, One, pattern_holds}
use Rattle.spec_expressions.specs.Truth.{truth_of}
use Rattle.spec_expressions.specs.Digits.{low_digits, number_of, equal_digits, digits_between}
use Rattle.spec_expressions.specs.Scope.{Field, field_digits}
use Rattle.spec_expressions.specs.Laws.{AreSlices}

pub number_of-field : (f : Field) (w : ℕ) → number_of (field_digits f w) ≡ Some (slice w f.start f.width)
number_of-field f w = number_of-low_digits f.width (slice w f.start f.width) ∙ ap Some (mod-eq_of_lt (mod-lt (w / 2 ^ f.start) (pow_pos f.width)))

-- digits of one width, the first of which have a number
equal_digits-number : (ds es : List Digit) (n : ℕ) → length ds ≡ length es → number_of ds ≡ Some n → equal_digits ds es ≡ truth_of (pattern_holds es n)
equal_digits-number ds es n same number = let t : (length ds == length es) ≡ true = grind (arith, nat_tests, same) in rw (t, number) refl

equal_digits-field : (f : Field) (w : ℕ) (ds : List Digit) → length ds ≡ f.width → equal_digits (field_digits f w) ds ≡ truth_of (pattern_holds ds (slice w f.start f.width))
equal_digits-field f w ds width = equal_digits-number (field_digits f w) ds (slice w f.start f.width) (low_digits-length f.width (slice w f.start f.width) ∙ sym width) (number_of-field f w)

-- ---- a part of a field

low_digits-same : (n v u : ℕ) → ((i : ℕ) → i < n → bit_of v i ≡ bit_of u i) → low_digits n v ≡ low_digits n u
low_digits-same zero v u same = refl
low_digits-same (suc n) v u same = ap₂ (λ bit ds. (if bit == 1 then One else Zero) ∷ ds) (same n (omega arith)) (low_digits-same n v u (λ i lt. same i (omega (arith, lt))))

-- the lowest m of j + m digits, and the highest k of k + m
drop-low_digits : (j n m v : ℕ) → n ≡ j + m → drop j (low_digits n v) ≡ low_digits m v
drop-low_digits zero n m v e = let same : n ≡ m = omega (arith, e) in ap (λ n. low_digits n v) same
drop-low_digits (suc j) zero m v e = absurd (omega (arith, e))
drop-low_digits (suc j) (suc n) m v e = drop-low_digits j n m v (omega (arith, e))

take-low_digits : (k n m v : ℕ) → n ≡ k + m → take k (low_digits n v) ≡ low_digits k (v / 2 ^ m)
take-low_digits zero n m v e = refl
take-low_digits (suc k) zero m v e = absurd (omega (arith, e))
take-low_digits (suc k) (suc n) m v e =
    ap₂ (λ bit ds. (if bit == 1 then One else Zero) ∷ ds) (let split : n ≡ m + k = omega (arith, e) in rw split (ap (λ x. x % 2) (sym (shr-shr v m k))))
    (take-low_digits k n m v (omega (arith, e)))

slice_range-low_digits : (n high low v : ℕ) → low ≤ high → high < n → slice_range (low_digits n v) (n - 1 - high) (n - low) ≡ low_digits (high - low + 1) (v / 2 ^ low)
slice_range-low_digits n high low v le lt =
    let count : n - low - (n - 1 - high) ≡ high - low + 1 = omega (arith, le, lt) in
    let cut : n ≡ n - 1 - high + (high + 1) = omega (arith, lt) in
    let rest : high + 1 ≡ high - low + 1 + low = omega (arith, le) in
    rw (count, drop-low_digits (n - 1 - high) n (high + 1) v cut) (take-low_digits (high - low + 1) (high + 1) low v rest)

-- bits of a slice above `low` are bits of the word
part-bits : (w start width low count i : ℕ) → low + count ≤ width → i < count → bit_of (slice w start width / 2 ^ low) i ≡ bit_of (slice w (start + low) count) i
part-bits w start width low count i fits lt =
    ap (λ x. x % 2) (shr-shr (slice w start width) low i) ∙ bit_of-slice w start width (low + i) (omega (arith, fits, lt))
    ∙ ap (bit_of w) (let e : start + (low + i) ≡ start + low + i = omega arith in e) ∙ sym (bit_of-slice w (start + low) count i lt)

digits_between-range : (ds : List Digit) (high low n : ℕ) → length ds ≡ n → low ≤ high → high < n → digits_between (pos high) (pos low) ds ≡ Some (slice_range ds (n - 1 - high) (n - low))
digits_between-range ds high low n width le lt =
    let first : nat_le low high ≡ true = grind (arith, nat_tests, le) in
    let second : nat_lt high n ≡ true = grind (arith, nat_tests, lt) in
    rw (width, first, second) refl

digits_between-field : (f : Field) (w high low : ℕ) → low ≤ high → high < f.width
    → digits_between (pos high) (pos low) (field_digits f w) ≡ Some (field_digits (record f { start = f.start + low; width = high - low + 1 }) w)
digits_between-field f w high low le lt =
    digits_between-range (field_digits f w) high low f.width (low_digits-length f.width (slice w f.start f.width)) le lt
    ∙ ap Some (slice_range-low_digits f.width high low (slice w f.start f.width) le lt
    ∙ low_digits-same (high - low + 1) (slice w f.start f.width / 2 ^ low) (slice w (f.start + low) (high - low + 1)) (λ i below. part-bits w f.start f.width low (high - low + 1) i (omega (arith, le, lt)) below))

pub are_slices : AreSlices
are_slices = record { number = number_of-field; equal = equal_digits-field; part = digits_between-field }
