-- Fixed bits over others, by masks.
use Rattle.std.proofs.Common.{◌≡◌, ◌∙◌, sym, ap, refl, ℕ, ◌+◌, ◌%◌, min, max, bit_and, bit_or, bit_xor, ◌==◌, cond, Some, None}
use Rattle.std.specs.Option.{option_or}
use Rattle.std.proofs.lemmas.Nat.Bits.{bit_at_and, bit_at_or, bit_at_xor, same_from_bits}
use Rattle.spec_bits.specs.Bits.{bit_of}
use Rattle.bit_pattern.proofs.DigitLaws.{BitPair, free, fixed_0, fixed_1, BitPair-at}
use Rattle.word_layout.specs.Masks.{fixed_by}

over_pair : (m v m' v' : ℕ) → BitPair m v → BitPair m' v' → cond (max m m' == 0) None (Some (max v ((v' + min v' m) % 2))) ≡ option_or (cond (m == 0) None (Some v)) (cond (m' == 0) None (Some v'))
over_pair m v m' v' free free = refl
over_pair m v m' v' free fixed_0 = refl
over_pair m v m' v' free fixed_1 = refl
over_pair m v m' v' fixed_0 free = refl
over_pair m v m' v' fixed_0 fixed_0 = refl
over_pair m v m' v' fixed_0 fixed_1 = refl
over_pair m v m' v' fixed_1 free = refl
over_pair m v m' v' fixed_1 fixed_0 = refl
over_pair m v m' v' fixed_1 fixed_1 = refl

over_inside : (m v m' v' : ℕ) → BitPair m v → BitPair m' v' → min (max v ((v' + min v' m) % 2)) (max m m') ≡ max v ((v' + min v' m) % 2)
over_inside m v m' v' free free = refl
over_inside m v m' v' free fixed_0 = refl
over_inside m v m' v' free fixed_1 = refl
over_inside m v m' v' fixed_0 free = refl
over_inside m v m' v' fixed_0 fixed_0 = refl
over_inside m v m' v' fixed_0 fixed_1 = refl
over_inside m v m' v' fixed_1 free = refl
over_inside m v m' v' fixed_1 fixed_0 = refl
over_inside m v m' v' fixed_1 fixed_1 = refl

module _ (mask value mask' value' : ℕ) (inside : bit_and value mask ≡ value) (inside' : bit_and value' mask' ≡ value') where
  abbrev over_value : ℕ
  over_value = bit_or value (bit_xor value' (bit_and value' mask))

  bit_of-value : (i : ℕ) → bit_of over_value i ≡ max (bit_of value i) ((bit_of value' i + min (bit_of value' i) (bit_of mask i)) % 2)
  bit_of-value i =
      bit_at_or value (bit_xor value' (bit_and value' mask)) i
      ∙ ap (λ b. max (bit_of value i) b) (bit_at_xor value' (bit_and value' mask) i ∙ ap (λ b. (bit_of value' i + b) % 2) (bit_at_and value' mask i))

  pub over-fixed : (i : ℕ) → fixed_by (bit_or mask mask') over_value i ≡ option_or (fixed_by mask value i) (fixed_by mask' value' i)
  over-fixed i =
      ap (λ b. cond (b == 0) None (Some (bit_of over_value i))) (bit_at_or mask mask' i)
      ∙ ap (λ b. cond (max (bit_of mask i) (bit_of mask' i) == 0) None (Some b)) (bit_of-value i)
      ∙ over_pair (bit_of mask i) (bit_of value i) (bit_of mask' i) (bit_of value' i) (BitPair-at mask value inside i) (BitPair-at mask' value' inside' i)

  pub over-inside : bit_and over_value (bit_or mask mask') ≡ over_value
  over-inside = same_from_bits (bit_and over_value (bit_or mask mask')) over_value (λ i.
      bit_at_and over_value (bit_or mask mask') i
      ∙ ap (λ b. min b (bit_of (bit_or mask mask') i)) (bit_of-value i)
      ∙ ap (λ b. min (max (bit_of value i) ((bit_of value' i + min (bit_of value' i) (bit_of mask i)) % 2)) b) (bit_at_or mask mask' i)
      ∙ over_inside (bit_of mask i) (bit_of value i) (bit_of mask' i) (bit_of value' i) (BitPair-at mask value inside i) (BitPair-at mask' value' inside' i)
      ∙ sym (bit_of-value i))
