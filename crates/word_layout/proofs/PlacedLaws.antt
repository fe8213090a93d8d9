-- Fixed bits at a place of the word.
use Rattle.std.proofs.Common.{◌≡◌, ◌∙◌, sym, ap, ℕ, ◌+◌, ◌-◌, ◌*◌, ◌%◌, ◌^◌, ◌<◌, ◌≤◌, min, bit_and, ◌==◌, cond, Some, None, arith, ◌⊎◌, inl, inr}
use Rattle.std.proofs.lemmas.Bool.{cases_lt}
use Rattle.std.proofs.lemmas.Nat.{mod_below}
use Rattle.std.proofs.lemmas.Nat.Bits.{bit_at_above, bit_at_and, same_from_bits}
use Rattle.spec_bits.specs.Bits.{bit_of}
use Rattle.spec_bits.specs.Item.{value_from}
use Rattle.spec_bits.proofs.ItemLaws.{value_from-below, value_from-from}
use Rattle.spec_bits.proofs.PatternLaws.{value_at-above}
use Rattle.bit_pattern.specs.Digits.{digits_below}
use Rattle.bit_pattern.proofs.DigitLaws.{length-digits_below, inside_le}
use Rattle.bit_pattern.proofs.ValueLaws.{value_at-digits_below}
use Rattle.word_layout.specs.Masks.{fixed_by}
use Rattle.word_layout.proofs.MaskLaws.{placed-below, placed-from}

module _ (mask value start width : ℕ) (inside : bit_and value mask ≡ value) (fits : mask < 2 ^ width) (within : start + width ≤ 32) where
  value_fits : value < 2 ^ width
  value_fits = omega (arith, fits, inside_le value mask inside)

  abbrev placed_mask : ℕ
  placed_mask = mask * 2 ^ start % 2 ^ 32

  abbrev placed_value : ℕ
  placed_value = value * 2 ^ start % 2 ^ 32

  pub mask-lt : placed_mask < 2 ^ 32
  mask-lt = mod_below (mask * 2 ^ start) (2 ^ 32) (omega arith)

  kept : (i : ℕ) → min (bit_of value i) (bit_of mask i) ≡ bit_of value i
  kept i = sym (bit_at_and value mask i) ∙ ap (λ x. bit_of x i) inside

  zero_min : (x : ℕ) → min 0 x ≡ 0
  zero_min x = omega arith

  pub value-inside : bit_and placed_value placed_mask ≡ placed_value
  value-inside = same_from_bits (bit_and placed_value placed_mask) placed_value (λ i. bit_at_and placed_value placed_mask i ∙ go i (cases_lt i start))
    where
      go : (i : ℕ) → (i < start) ⊎ (start ≤ i) → min (bit_of placed_value i) (bit_of placed_mask i) ≡ bit_of placed_value i
      go i (inl low) =
          let none = placed-below value start width value_fits within i low in
          ap (λ b. min b (bit_of placed_mask i)) none ∙ zero_min (bit_of placed_mask i) ∙ sym none
      go i (inr from) =
          let at = placed-from value start width value_fits within i from in
          ap (λ b. min b (bit_of placed_mask i)) at ∙ ap (λ b. min (bit_of value (i - start)) b) (placed-from mask start width fits within i from) ∙ kept (i - start) ∙ sym at

  pub fixed-at : (i : ℕ) → fixed_by placed_mask placed_value i ≡ value_from start (digits_below mask value width) i
  fixed-at i = go (cases_lt i start) (cases_lt (i - start) width)
    where
      go : (i < start) ⊎ (start ≤ i) → (i - start < width) ⊎ (width ≤ i - start) → fixed_by placed_mask placed_value i ≡ value_from start (digits_below mask value width) i
      go (inl low) s = ap (λ b. cond (b == 0) None (Some (bit_of placed_value i))) (placed-below mask start width fits within i low) ∙ sym (value_from-below start (digits_below mask value width) i low)
      go (inr from) (inl below) =
          ap (λ b. cond (b == 0) None (Some (bit_of placed_value i))) (placed-from mask start width fits within i from)
          ∙ ap (λ v. cond (bit_of mask (i - start) == 0) None (Some v)) (placed-from value start width value_fits within i from)
          ∙ sym (value_at-digits_below mask value width (i - start) inside below)
          ∙ sym (value_from-from start (digits_below mask value width) i from)
      go (inr from) (inr above) =
          ap (λ b. cond (b == 0) None (Some (bit_of placed_value i))) (placed-from mask start width fits within i from ∙ bit_at_above mask width (i - start) fits above)
          ∙ sym (value_at-above (digits_below mask value width) (i - start) (omega (arith, above, length-digits_below mask value width)))
          ∙ sym (value_from-from start (digits_below mask value width) i from)
