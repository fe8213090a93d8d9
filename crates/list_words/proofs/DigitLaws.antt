-- The digits below a width, one by one.
use Rattle.std.proofs.Common.{◌≡◌, ◌≢◌, ap, ℕ, ◌-◌, zero, suc, ◌∷◌, arith}
use Rattle.bit_pattern.specs.Digits.{digit_at, digits_below}

pub digits_below-more : (mask value n : ℕ) → n ≢ 0 → digits_below mask value n ≡ digit_at mask value (n - 1) ∷ digits_below mask value (n - 1)
digits_below-more mask value zero h = absurd (h (omega arith))
digits_below-more mask value (suc n) h = let one : n ≡ suc n - 1 = omega arith in ap (λ k. digit_at mask value k ∷ digits_below mask value k) one
