-- The bits between two numbers, by what these are as numbers of bits.
use Rattle.std.proofs.Common.{◌≡◌, ◌∙◌, refl, ap₂, ℕ, ◌+◌, ◌-◌, ◌<◌, ◌≤◌, ℤ, pos, negsuc, Bool, true, false, ◌&&◌, nat_le, nat_lt, cond, length, slice_range, Some, None, arith}
use Rattle.std.proofs.lemmas.Bool.{ltb-false}
use Rattle.std.proofs.lemmas.Bool.Decides.{nat_tests}
use Rattle.spec_expressions.specs.Digits.{digits_between}
use Rattle.bit_pattern.specs.declared.pattern.Pattern.{Pattern}
use Rattle.bit_pattern.specs.Views.{digits_of}
use Rattle.ast_eval.specs.BitNumber.{bit_number}
use Rattle.ast_eval.proofs.BitsLaws.{width}

no_bit : (n : ℕ) → None ≡ bit_number (pos n) → 256 ≤ n
no_bit n none = go (nat_lt n 256) refl none
  where
    go : (b : Bool) → nat_lt n 256 ≡ b → None ≡ cond b (Some n) None → 256 ≤ n
    go true e h = absurd (cc)
    go false e h = ltb-false n 256 e

same_bit : (n k : ℕ) → Some k ≡ bit_number (pos n) → n ≡ k
same_bit n k some = go (nat_lt n 256) some
  where
    go : (b : Bool) → Some k ≡ cond b (Some n) None → n ≡ k
    go true h = cc
    go false h = absurd (cc)

module _ (p : Pattern) where
  -- a bit that is not there, or one above the other
  past : (high low : ℕ) → (low ≤ high → p.width ≤ high) → None ≡ digits_between (pos high) (pos low) (digits_of p)
  past high low beyond = go (nat_le low high) refl
    where
      go : (b : Bool) → nat_le low high ≡ b → None ≡ cond (b && nat_lt high (length (digits_of p))) (Some (slice_range (digits_of p) (length (digits_of p) - 1 - high) (length (digits_of p) - low))) None
      go true e =
          let w = width p in
          let at : p.width ≤ high = beyond (grind (arith, nat_tests)) in
          let out : nat_lt high (length (digits_of p)) ≡ false = grind (arith, nat_tests) in
          rw out refl
      go false e = refl

  pub between-no_high : (high low : ℤ) → None ≡ bit_number high → None ≡ digits_between high low (digits_of p)
  between-no_high (pos high) (pos low) none = past high low (λ _. let far = no_bit high none in let few = p.fits in omega arith)
  between-no_high (pos high) (negsuc low) none = refl
  between-no_high (negsuc high) low none = refl

  pub between-no_low : (high low : ℤ) (k : ℕ) → Some k ≡ bit_number high → None ≡ bit_number low → None ≡ digits_between high low (digits_of p)
  between-no_low (pos high) (pos low) k some none = past high low (λ up. let far = no_bit low none in let few = p.fits in omega arith)
  between-no_low (pos high) (negsuc low) k some none = refl
  between-no_low (negsuc high) low k some none = refl

  pub between-beyond : (high low : ℤ) (h l : ℕ) → Some h ≡ bit_number high → Some l ≡ bit_number low → (l ≤ h → p.width ≤ h) → None ≡ digits_between high low (digits_of p)
  between-beyond (pos high) (pos low) h l is_high is_low beyond =
      let high_is = same_bit high h is_high in
      let low_is = same_bit low l is_low in
      past high low (λ up. let out : p.width ≤ h = beyond (omega arith) in omega arith)
  between-beyond (pos high) (negsuc low) h l is_high is_low beyond = refl
  between-beyond (negsuc high) low h l is_high is_low beyond = refl

  pub between-some : (high low : ℤ) (h l : ℕ) → Some h ≡ bit_number high → Some l ≡ bit_number low → l ≤ h → h < p.width
      → Some (slice_range (digits_of p) (p.width - (l + (h - l + 1))) (p.width - l)) ≡ digits_between high low (digits_of p)
  between-some (pos high) (pos low) h l is_high is_low up within =
      let high_is = same_bit high h is_high in
      let low_is = same_bit low l is_low in
      let w = width p in
      let first : nat_le low high ≡ true = grind (arith, nat_tests) in
      let second : nat_lt high (length (digits_of p)) ≡ true = grind (arith, nat_tests) in
      let from : p.width - (l + (h - l + 1)) ≡ length (digits_of p) - 1 - high = omega arith in
      let to : p.width - l ≡ length (digits_of p) - low = omega arith in
      ap₂ (λ i j. Some (slice_range (digits_of p) i j)) from to ∙ rw (first, second) refl
  between-some (pos high) (negsuc low) h l is_high is_low up within = absurd (cc)
  between-some (negsuc high) low h l is_high is_low up within = absurd (cc)
