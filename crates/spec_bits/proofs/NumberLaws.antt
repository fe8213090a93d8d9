-- Laws of digits that write numbers.
use Rattle.std.proofs.Common.{◌≡◌, ◌∙◌, refl, sym, ap, ℕ, zero, suc, ◌+◌, ◌*◌, ◌/◌, ◌%◌, ◌^◌, ◌<◌, ◌==◌, cond, length, Option, Some, option_map, option_and_then, arith, mod-lt}
use Rattle.std.proofs.Math.Nat.{mod-one}
use Rattle.spec_bits.specs.Bits.{bit_of}
use Rattle.spec_bits.specs.Pattern.{Zero, One, digit_value}
use Rattle.spec_bits.specs.Number.{low_digits, number_of}
use Rattle.spec_bits.proofs.BitLaws.{mod-bit}

pub low_digits-length : (n w : ℕ) → length (low_digits n w) ≡ n
low_digits-length zero w = refl
low_digits-length (suc n) w = ap suc (low_digits-length n w)

digit_value-bit : (b : ℕ) → b < 2 → digit_value (cond (b == 1) One Zero) ≡ Some b
digit_value-bit zero h = refl
digit_value-bit (suc zero) h = refl
digit_value-bit (suc (suc b)) h = absurd (omega (arith, h))

bit_value : (b c m : ℕ) (d : Option ℕ) (ms : Option ℕ) → d ≡ Some b → ms ≡ Some m → option_and_then (λ bit. option_map (λ n. bit * c + n) ms) d ≡ Some (b * c + m)
bit_value b c m d ms e f = rw (e, f) refl

-- a number's lowest n digits write it mod 2 ^ n
pub number_of-low_digits : (n w : ℕ) → number_of (low_digits n w) ≡ Some (w % 2 ^ n)
number_of-low_digits zero w = rw (mod-one w) refl
number_of-low_digits (suc n) w =
    rw (low_digits-length n w) (bit_value (bit_of w n) (2 ^ n) (w % 2 ^ n) _ _ (digit_value-bit (bit_of w n) (mod-lt (w / 2 ^ n) (omega arith))) (number_of-low_digits n w))
    ∙ ap Some (sym (mod-bit w n))
