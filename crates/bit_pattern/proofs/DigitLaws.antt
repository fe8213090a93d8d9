-- Laws of the digits that a mask and a value stand for.
use Rattle.std.proofs.Common.{◌≡◌, ◌∙◌, sym, ap, refl, ℕ, zero, suc, ◌<◌, ◌≤◌, min, bit_and, length, arith}
use Rattle.std.proofs.lemmas.Nat.{and_le_r}
use Rattle.std.proofs.lemmas.Nat.Bits.{bit_at_and, bit_at-lt}
use Rattle.spec_bits.specs.Bits.{bit_of}
use Rattle.bit_pattern.specs.Digits.{digits_below}

pub length-digits_below : (mask value n : ℕ) → length (digits_below mask value n) ≡ n
length-digits_below mask value zero = refl
length-digits_below mask value (suc n) = ap suc (length-digits_below mask value n)

-- a value inside a mask is no more than the mask
pub inside_le : (value mask : ℕ) → bit_and value mask ≡ value → value ≤ mask
inside_le value mask inside = omega (arith, and_le_r value mask, inside)

-- one bit of a mask and one of a value inside it
pub data BitPair : ℕ → ℕ → Type 0 where
  free : BitPair 0 0
  fixed_0 : BitPair 1 0
  fixed_1 : BitPair 1 1

BitPair-from : (m v : ℕ) → m < 2 → v < 2 → min v m ≡ v → BitPair m v
BitPair-from zero zero hm hv inside = free
BitPair-from (suc zero) zero hm hv inside = fixed_0
BitPair-from (suc zero) (suc zero) hm hv inside = fixed_1
BitPair-from zero (suc v) hm hv inside = absurd (omega arith)
BitPair-from (suc zero) (suc (suc v)) hm hv inside = absurd (omega arith)
BitPair-from (suc (suc m)) v hm hv inside = absurd (omega arith)

pub BitPair-at : (mask value : ℕ) → bit_and value mask ≡ value → (i : ℕ) → BitPair (bit_of mask i) (bit_of value i)
BitPair-at mask value inside i =
    BitPair-from (bit_of mask i) (bit_of value i) (bit_at-lt mask i) (bit_at-lt value i) (sym (bit_at_and value mask i) ∙ ap (λ n. bit_of n i) inside)
