-- Digits before others stand for the higher bits.
use Rattle.std.proofs.Common.{◌≡◌, ◌≢◌, ◌∙◌, sym, refl, ℕ, zero, suc, ◌-◌, ◌<◌, ◌≤◌, List, [], ◌∷◌, ◌++◌, length, replicate, None, arith, length-append, ◌⊎◌, inl, inr}
use Rattle.std.proofs.lemmas.Bool.{cases_eq}
use Rattle.spec_bits.specs.Pattern.{Digit, Either, value_at}
use Rattle.spec_bits.proofs.PatternLaws.{value_at-here, value_at-there, value_at-above}

-- the lower bits are those of the digits behind
pub value_at-append_low : (ds es : List Digit) (i : ℕ) → i < length es → value_at (ds ++ es) i ≡ value_at es i
value_at-append_low [] es i h = refl
value_at-append_low (d ∷ ds) es i h = value_at-there d (ds ++ es) i (λ e. omega (arith, length-append ds es)) ∙ value_at-append_low ds es i h

-- and the higher bits those of the digits before
pub value_at-append_high : (ds es : List Digit) (i : ℕ) → length es ≤ i → value_at (ds ++ es) i ≡ value_at ds (i - length es)
value_at-append_high [] es i h = value_at-above es i h
value_at-append_high (d ∷ ds) es i h = go (cases_eq i (length (ds ++ es))) (value_at-append_high ds es i h)
  where
    go : (i ≡ length (ds ++ es)) ⊎ (i ≢ length (ds ++ es)) → value_at (ds ++ es) i ≡ value_at ds (i - length es) → value_at (d ∷ ds ++ es) i ≡ value_at (d ∷ ds) (i - length es)
    go (inl here) rest = value_at-here d (ds ++ es) i here ∙ sym (value_at-here d ds (i - length es) (omega (arith, length-append ds es)))
    go (inr apart) rest =
        value_at-there d (ds ++ es) i apart
        ∙ rest
        ∙ sym (value_at-there d ds (i - length es) (λ e. apart (omega (arith, length-append ds es))))

-- digits `x` fix no bit
pub value_at-either : (n i : ℕ) → value_at (replicate n Either) i ≡ None
value_at-either zero i = refl
value_at-either (suc n) i = go (cases_eq i (length (replicate n Either))) (value_at-either n i)
  where
    go : (i ≡ length (replicate n Either)) ⊎ (i ≢ length (replicate n Either)) → value_at (replicate n Either) i ≡ None → value_at (Either ∷ replicate n Either) i ≡ None
    go (inl here) rest = value_at-here Either (replicate n Either) i here
    go (inr apart) rest = value_at-there Either (replicate n Either) i apart ∙ rest
