-- Laws of marks that are read: they are the bits of masks and values.
use Rattle.std.proofs.Common.{◌≡◌, ◌∙◌, sym, ap, refl, ℕ, zero, suc, min, bit_and, ◌==◌, ◌&&◌, cond, false, [], ◌∷◌, map, arith}
use Rattle.std.proofs.lemmas.Nat.Bits.{bit_at_and, bit_at-zero, same_from_bits}
use Rattle.spec_bits.specs.Bits.{bit_of}
use Rattle.spec_bits.specs.Pattern.{Zero, One, Either}
use Rattle.bit_pattern.specs.Digits.{digit_at, digits_below}
use Rattle.bit_pattern.proofs.DigitLaws.{BitPair, free, fixed_0, fixed_1, BitPair-at}
use Rattle.spec_instructions.specs.Encodeset.{is_binary, is_one, marked_by}
use Rattle.bit_pattern.specs.Marks.{marks_of}

binary-bit : (m v : ℕ) → BitPair m v → (m == 1) ≡ is_binary (cond (m == 0) Either (cond (v == 0) Zero One))
binary-bit m v free = refl
binary-bit m v fixed_0 = refl
binary-bit m v fixed_1 = refl

-- the mask's bits mark the digits `0` and `1`
pub marks_of-mask : (mask value n : ℕ) → bit_and value mask ≡ value → marks_of n mask ≡ map is_binary (digits_below mask value n)
marks_of-mask mask value zero inside = refl
marks_of-mask mask value (suc n) inside =
    ap (λ b. b ∷ marks_of n mask) (binary-bit (bit_of mask n) (bit_of value n) (BitPair-at mask value inside n))
    ∙ ap (λ bs. is_binary (digit_at mask value n) ∷ bs) (marks_of-mask mask value n inside)

marked-bit : (m v m' v' : ℕ) → BitPair m v → BitPair m' v' → (min m v' == 1) ≡ (is_binary (cond (m == 0) Either (cond (v == 0) Zero One)) && is_one (cond (m' == 0) Either (cond (v' == 0) Zero One)))
marked-bit m v m' v' free free = refl
marked-bit m v m' v' free fixed_0 = refl
marked-bit m v m' v' free fixed_1 = refl
marked-bit m v m' v' fixed_0 free = refl
marked-bit m v m' v' fixed_0 fixed_0 = refl
marked-bit m v m' v' fixed_0 fixed_1 = refl
marked-bit m v m' v' fixed_1 free = refl
marked-bit m v m' v' fixed_1 fixed_0 = refl
marked-bit m v m' v' fixed_1 fixed_1 = refl

-- of these, the bits of another pattern's value mark those at which that pattern has `1`
pub marks_of-both : (mask value mask' value' n : ℕ) → bit_and value mask ≡ value → bit_and value' mask' ≡ value' → marks_of n (bit_and mask value') ≡ marked_by (digits_below mask value n) (digits_below mask' value' n)
marks_of-both mask value mask' value' zero inside inside' = refl
marks_of-both mask value mask' value' (suc n) inside inside' =
    ap (λ b. (b == 1) ∷ marks_of n (bit_and mask value')) (bit_at_and mask value' n)
    ∙ ap (λ b. b ∷ marks_of n (bit_and mask value')) (marked-bit (bit_of mask n) (bit_of value n) (bit_of mask' n) (bit_of value' n) (BitPair-at mask value inside n) (BitPair-at mask' value' inside' n))
    ∙ ap (λ bs. (is_binary (digit_at mask value n) && is_one (digit_at mask' value' n)) ∷ bs) (marks_of-both mask value mask' value' n inside inside')

-- the number 0 marks nothing, as does no mask
pub marks_of-zero : (mask value n : ℕ) → marks_of n 0 ≡ marked_by (digits_below mask value n) []
marks_of-zero mask value zero = refl
marks_of-zero mask value (suc n) = ap (λ b. (b == 1) ∷ marks_of n 0) (bit_at-zero n) ∙ ap (λ bs. false ∷ bs) (marks_of-zero mask value n)

-- bits that are taken from a mask stand in it
pub and_twice : (mask value : ℕ) → bit_and (bit_and mask value) mask ≡ bit_and mask value
and_twice mask value = same_from_bits (bit_and (bit_and mask value) mask) (bit_and mask value) each
  where
    each : (i : ℕ) → bit_of (bit_and (bit_and mask value) mask) i ≡ bit_of (bit_and mask value) i
    each i =
        let twice : min (min (bit_of mask i) (bit_of value i)) (bit_of mask i) ≡ min (bit_of mask i) (bit_of value i) = omega arith in
        bit_at_and (bit_and mask value) mask i ∙ ap (λ b. min b (bit_of mask i)) (bit_at_and mask value i) ∙ twice ∙ sym (bit_at_and mask value i)
