-- `bits & mask == value` is the test that each digit holds of its bit.
use Rattle.std.proofs.Common.{◌≡◌, ap, refl, ℕ, ◌<◌, ◌^◌, min, bit_and, ◌&&◌, ◌==◌, cond, arith}
use Rattle.std.specs.Bool.{Decides}
use Rattle.std.proofs.lemmas.Bool.Decides.{Decides-eqb, Decides-like, Decides-below_and, same_from_decides}
use Rattle.std.proofs.lemmas.Nat.{and_le_r}
use Rattle.std.proofs.lemmas.Nat.Bits.{bit_at_and, bit_at-lt, same_from_bits_below}
use Rattle.spec_bits.specs.Bits.{bit_of}
use Rattle.spec_bits.specs.Pattern.{Zero, One, Either, digit_holds, pattern_holds}
use Rattle.bit_pattern.specs.Digits.{digit_at, digits_below}
use Rattle.bit_pattern.proofs.DigitLaws.{length-digits_below, inside_le, BitPair, free, fixed_0, fixed_1, BitPair-at}

-- one bit: a of the number, m of the mask, v of the value
bit_holds : (a m v : ℕ) → a < 2 → BitPair m v → Decides (digit_holds (cond (m == 0) Either (cond (v == 0) Zero One)) a) (min a m ≡ v)
bit_holds a m v below free = (λ _. omega arith, λ _. refl)
bit_holds a m v below fixed_0 = Decides-like (a == 0) (λ e. omega arith) (λ e. omega arith) (Decides-eqb a 0)
bit_holds a m v below fixed_1 = Decides-like (a == 1) (λ e. omega arith) (λ e. omega arith) (Decides-eqb a 1)

digit_at-holds : (w mask value : ℕ) → bit_and value mask ≡ value → (i : ℕ) → Decides (digit_holds (digit_at mask value i) (bit_of w i)) (bit_of (bit_and w mask) i ≡ bit_of value i)
digit_at-holds w mask value inside i =
    rw (bit_at_and w mask i) (bit_holds (bit_of w i) (bit_of mask i) (bit_of value i) (bit_at-lt w i) (BitPair-at mask value inside i))

digits_hold-each : (w mask value : ℕ) → bit_and value mask ≡ value → (n : ℕ) → Decides (pattern_holds (digits_below mask value n) w) ((i : ℕ) → i < n → bit_of (bit_and w mask) i ≡ bit_of value i)
digits_hold-each w mask value inside n =
    Decides-below_and (λ i. digit_holds (digit_at mask value i) (bit_of w i)) (λ i. bit_of (bit_and w mask) i ≡ bit_of value i) (λ k. pattern_holds (digits_below mask value k) w)
    (digit_at-holds w mask value inside) refl
    (λ k. ap (λ j. digit_holds (digit_at mask value k) (bit_of w j) && pattern_holds (digits_below mask value k) w) (length-digits_below mask value k)) n

mask_test-each : (w mask value n : ℕ) → mask < 2 ^ n → bit_and value mask ≡ value → Decides (bit_and w mask == value) ((i : ℕ) → i < n → bit_of (bit_and w mask) i ≡ bit_of value i)
mask_test-each w mask value n fits inside =
    Decides-like (bit_and w mask == value)
    (λ e i h. ap (λ x. bit_of x i) e)
    (λ same. same_from_bits_below n (bit_and w mask) value (omega (arith, and_le_r w mask)) (omega (arith, inside_le value mask inside)) same)
    (Decides-eqb (bit_and w mask) value)

pub digits_hold : (w mask value n : ℕ) → mask < 2 ^ n → bit_and value mask ≡ value → (bit_and w mask == value) ≡ pattern_holds (digits_below mask value n) w
digits_hold w mask value n fits inside =
    same_from_decides (bit_and w mask == value) (pattern_holds (digits_below mask value n) w) (mask_test-each w mask value n fits inside) (digits_hold-each w mask value inside n)
