-- Laws of bits compared and taken as numbers, by patterns.
use Rattle.std.proofs.Common.{append-nil, ◌≡◌, ◌≢◌, ◌∙◌, refl, sym, ap, ap₂, ℕ, ◌-◌, ◌<◌, ◌≤◌, ◌^◌, ◌==◌, Bool, true, false, ◌&&◌, nat_le, List, [], ◌∷◌, length, Option, Some, None, option_map, unwrap_or, arith}
use Rattle.std.specs.List.{list_all}
use Rattle.std.proofs.lemmas.Bool.Decides.{nat_tests}
use Rattle.std.proofs.lemmas.Nat.Bits.{bit_at-zero, bit_at_ones}
use Rattle.spec_bits.specs.Pattern.{Digit, digit_holds, pattern_holds}
use Rattle.spec_bits.specs.Number.{number_of}
use Rattle.spec_expressions.specs.Truth.{Truth, Open}
use Rattle.spec_expressions.specs.Digits.{hold_of, equal_digits}
use Rattle.spec_expressions.specs.Operations.{ATruth, APattern, number_or_open, bits_or_open, unsigned}
use Rattle.bit_pattern.specs.declared.pattern.Pattern.{Pattern}
use Rattle.bit_pattern.specs.Views.{digits_of}
use Rattle.bit_pattern.proofs.DigitLaws.{length-digits_below}
use Rattle.ast_eval.specs.declared.row.Row.TheVariants.{Bits}
use Rattle.ast_eval.specs.Rows.{limited, joined_with}
use Rattle.ast_eval.specs.Views.{known}

pub width : (p : Pattern) → length (digits_of p) ≡ p.width
width p = length-digits_below p.mask p.value p.width

-- ---- numbers

pub unsigned-wide : (p : Pattern) → 64 < p.width → ATruth Open ≡ unsigned (APattern (digits_of p))
unsigned-wide p wide =
    let many : nat_le (length (digits_of p)) 64 ≡ false = let w = width p in grind (arith, nat_tests) in
    rw many refl

pub unsigned-narrow : (p : Pattern) → p.width ≤ 64 → (o : Option ℕ) → o ≡ number_of (digits_of p) → number_or_open o ≡ unsigned (APattern (digits_of p))
unsigned-narrow p narrow o is =
    let few : nat_le (length (digits_of p)) 64 ≡ true = let w = width p in grind (arith, nat_tests) in
    rw (few, ← is) refl

-- ---- bits joined

-- a pattern by itself has few enough digits
pub joined-alone : (p : Pattern) → APattern (digits_of p) ≡ joined_with (Bits p) []
joined-alone p =
    let few : nat_le (length (digits_of p)) 128 ≡ true = let w = width p in let fits = p.fits in grind (arith, nat_tests) in
    sym (ap (λ ds. bits_or_open (limited (Some ds))) (append-nil (digits_of p)) ∙ rw few refl)

-- ---- all zeros, all ones

pub zeros_hold : (ds : List Digit) → pattern_holds ds 0 ≡ list_all (λ d. digit_holds d 0) ds
zeros_hold [] = refl
zeros_hold (d ∷ ds) = ap₂ (λ a b. a && b) (ap (digit_holds d) (bit_at-zero (length ds))) (zeros_hold ds)

ones_hold-below : (n : ℕ) (ds : List Digit) → length ds ≤ n → pattern_holds ds (2 ^ n - 1) ≡ list_all (λ d. digit_holds d 1) ds
ones_hold-below n [] few = refl
ones_hold-below n (d ∷ ds) few = ap₂ (λ a b. a && b) (ap (digit_holds d) (bit_at_ones n (length ds) (omega (arith, few)))) (ones_hold-below n ds (omega (arith, few)))

pub ones_hold : (p : Pattern) → pattern_holds (digits_of p) 340282366920938463463374607431768211455 ≡ list_all (λ d. digit_holds d 1) (digits_of p)
ones_hold p = ones_hold-below 128 (digits_of p) (omega (arith, width p, p.fits))

-- ---- equal bits

holds : List Digit → Option ℕ → Option Truth
holds ds o = option_map (λ n. known (pattern_holds ds n)) o

module _ (p q : Pattern) where
  pub equal_digits-apart : p.width ≢ q.width → Open ≡ equal_digits (digits_of p) (digits_of q)
  equal_digits-apart apart =
      let other : (length (digits_of p) == length (digits_of q)) ≡ false = let w = width p in let v = width q in grind (arith, nat_tests) in
      rw other refl

  together : p.width ≡ q.width → equal_digits (digits_of p) (digits_of q) ≡ unwrap_or (hold_of (digits_of q) (digits_of p)) (unwrap_or (hold_of (digits_of p) (digits_of q)) Open)
  together same =
      let one : (length (digits_of p) == length (digits_of q)) ≡ true = let w = width p in let v = width q in grind (arith, nat_tests) in
      rw one refl

  pub equal_digits-left : (n : ℕ) (t : Bool) → p.width ≡ q.width → Some n ≡ number_of (digits_of p) → t ≡ pattern_holds (digits_of q) n → known t ≡ equal_digits (digits_of p) (digits_of q)
  equal_digits-left n t same number is = ap known is ∙ sym (together same ∙ rw (← number) refl)

  pub equal_digits-right : (n : ℕ) (t : Bool) → p.width ≡ q.width → None ≡ number_of (digits_of p) → Some n ≡ number_of (digits_of q) → t ≡ pattern_holds (digits_of p) n → known t ≡ equal_digits (digits_of p) (digits_of q)
  equal_digits-right n t same none number is = ap known is ∙ sym (together same ∙ rw (← none, ← number) refl)

  pub equal_digits-open : p.width ≡ q.width → None ≡ number_of (digits_of p) → None ≡ number_of (digits_of q) → Open ≡ equal_digits (digits_of p) (digits_of q)
  equal_digits-open same none neither = sym (together same ∙ rw (← none, ← neither) refl)
