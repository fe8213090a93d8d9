-- What a mask and a value fix, and that the digits tell both numbers.
use Rattle.std.proofs.Common.{◌≡◌, ◌≢◌, ◌∙◌, refl, sym, ap, subst, ℕ, zero, suc, ◌<◌, ◌^◌, bit_and, ◌==◌, cond, length, Some, None, arith, ◌⊎◌, inl, inr}
use Rattle.std.proofs.lemmas.Bool.{cases_eq}
use Rattle.std.proofs.lemmas.Nat.Bits.{same_from_bits_below}
use Rattle.spec_bits.specs.Bits.{bit_of}
use Rattle.spec_bits.specs.Pattern.{Zero, One, Either, value_at, digit_value}
use Rattle.spec_bits.proofs.PatternLaws.{value_at-here, value_at-there}
use Rattle.bit_pattern.specs.Digits.{digit_at, digits_below}
use Rattle.bit_pattern.specs.Views.{digits_of}
use Rattle.bit_pattern.specs.declared.pattern.Pattern.{Pattern}
use Rattle.bit_pattern.proofs.DigitLaws.{length-digits_below, inside_le, BitPair, free, fixed_0, fixed_1, BitPair-at}

digit_value-at_below : (mask value n i : ℕ) → i < n → value_at (digits_below mask value n) i ≡ digit_value (digit_at mask value i)
digit_value-at_below mask value zero i below = absurd (omega arith)
digit_value-at_below mask value (suc n) i below = go (cases_eq i n) (λ b. digit_value-at_below mask value n i b)
  where
    go : (i ≡ n) ⊎ (i ≢ n) → (i < n → value_at (digits_below mask value n) i ≡ digit_value (digit_at mask value i)) → value_at (digits_below mask value (suc n)) i ≡ digit_value (digit_at mask value i)
    go (inl here) further =
        value_at-here (digit_at mask value n) (digits_below mask value n) i (here ∙ sym (length-digits_below mask value n)) ∙ ap (λ k. digit_value (digit_at mask value k)) (sym here)
    go (inr apart) further =
        value_at-there (digit_at mask value n) (digits_below mask value n) i (λ e. apart (e ∙ length-digits_below mask value n)) ∙ further (omega arith)

pair_value : (m v : ℕ) → BitPair m v → digit_value (cond (m == 0) Either (cond (v == 0) Zero One)) ≡ cond (m == 0) None (Some v)
pair_value m v free = refl
pair_value m v fixed_0 = refl
pair_value m v fixed_1 = refl

-- a bit below the width is fixed where the mask has it, to the value's bit
pub value_at-digits_below : (mask value n i : ℕ) → bit_and value mask ≡ value → i < n → value_at (digits_below mask value n) i ≡ cond (bit_of mask i == 0) None (Some (bit_of value i))
value_at-digits_below mask value n i inside below =
    digit_value-at_below mask value n i below ∙ pair_value (bit_of mask i) (bit_of value i) (BitPair-at mask value inside i)

pair_same : (m v m' v' : ℕ) → BitPair m v → BitPair m' v' → cond (m == 0) None (Some v) ≡ cond (m' == 0) None (Some v') → (m ≡ m') × (v ≡ v')
pair_same m v m' v' free free h = (refl, refl)
pair_same m v m' v' free fixed_0 h = absurd (cc)
pair_same m v m' v' free fixed_1 h = absurd (cc)
pair_same m v m' v' fixed_0 free h = absurd (cc)
pair_same m v m' v' fixed_0 fixed_0 h = (refl, refl)
pair_same m v m' v' fixed_0 fixed_1 h = (refl, cc)
pair_same m v m' v' fixed_1 free h = absurd (cc)
pair_same m v m' v' fixed_1 fixed_0 h = (refl, cc)
pair_same m v m' v' fixed_1 fixed_1 h = (refl, refl)

-- patterns with the same digits are the same numbers
pub record SameNumbers (p q : Pattern) : Type 0 where
  pub width : p.width ≡ q.width
  pub mask : p.mask ≡ q.mask
  pub value : p.value ≡ q.value

pub SameNumbers-from : (p q : Pattern) → digits_of p ≡ digits_of q → SameNumbers p q
SameNumbers-from p q same = record {
  width = wide;
  mask = same_from_bits_below p.width p.mask q.mask p.mask_fits fits (λ i below. (each i below).0);
  value = same_from_bits_below p.width p.value q.value (omega (arith, inside_le p.value p.mask p.value_in_mask, p.mask_fits)) (omega (arith, inside_le q.value q.mask q.value_in_mask, fits)) (λ i below. (each i below).1);
}
  where
    wide : p.width ≡ q.width
    wide = sym (length-digits_below p.mask p.value p.width) ∙ ap length same ∙ length-digits_below q.mask q.value q.width

    fits : q.mask < 2 ^ p.width
    fits = subst (λ (n : ℕ). q.mask < 2 ^ n) (sym wide) q.mask_fits

    each : (i : ℕ) → i < p.width → (bit_of p.mask i ≡ bit_of q.mask i) × (bit_of p.value i ≡ bit_of q.value i)
    each i below =
        pair_same (bit_of p.mask i) (bit_of p.value i) (bit_of q.mask i) (bit_of q.value i) (BitPair-at p.mask p.value p.value_in_mask i) (BitPair-at q.mask q.value q.value_in_mask i)
        (sym (value_at-digits_below p.mask p.value p.width i p.value_in_mask below) ∙ ap (λ ds. value_at ds i) same ∙ value_at-digits_below q.mask q.value q.width i q.value_in_mask (omega (arith, wide)))
