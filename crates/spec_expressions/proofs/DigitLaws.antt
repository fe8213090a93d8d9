-- Digits without `x` hold of their number alone, so that two bit values are equal in either order.
use Rattle.std.proofs.Common.{◌≡◌, ◌∙◌, refl, sym, ap, subst, ℕ, zero, suc, ◌+◌, ◌*◌, ◌/◌, ◌%◌, ◌^◌, ◌<◌, ◌==◌, Bool, true, false, ◌&&◌, List, [], ◌∷◌, length, Option, Some, None, option_map, unwrap_or, arith, pow_pos, mod-lt, mod-eq_of_lt, zero-mul, zero-add}
use Rattle.std.specs.Prelude.{if◌then◌else◌}
use Rattle.std.proofs.Math.Nat.{pow-succ', mod-one}
use Rattle.std.proofs.lemmas.Bool.Decides.{nat_tests}
use Rattle.std.proofs.lemmas.Cmp.{int_eq_equiv}
use Rattle.spec_bits.specs.Bits.{bit_of}
use Rattle.spec_bits.specs.Pattern.{Digit, Zero, One, Either, digit_value, digit_holds, pattern_holds}
use Rattle.spec_bits.proofs.BitLaws.{mod-bit}
use Rattle.spec_expressions.specs.Truth.{Truth, Yes, No, Open, truth_of, equivalence}
use Rattle.spec_expressions.specs.Digits.{number_of, hold_of, equal_digits}
use Rattle.spec_expressions.specs.Operations.{ATruth, ANumber, APattern}
use Rattle.spec_expressions.specs.Laws.{EqualIsSymmetric}

same_some : {a b : ℕ} → Some a ≡ Some b → a ≡ b
same_some {a} {b} e = ap (λ o. unwrap_or o 0) e

-- the number of digits, of which the first is given apart
record Splits (d : Digit) (ds : List Digit) (m : ℕ) : Type 0 where
  bit : ℕ
  rest : ℕ
  first : digit_value d ≡ Some bit
  others : number_of ds ≡ Some rest
  sum : bit * 2 ^ length ds + rest ≡ m

splits : (d : Digit) (ds : List Digit) (m : ℕ) → number_of (d ∷ ds) ≡ Some m → Splits d ds m
splits Zero ds m e = go (number_of ds) refl e
  where
    go : (o : Option ℕ) → number_of ds ≡ o → option_map (λ n. 0 * 2 ^ length ds + n) o ≡ Some m → Splits Zero ds m
    go (Some r) f e = record { bit = 0; rest = r; first = refl; others = f; sum = same_some e }
    go None f e = absurd cc
splits One ds m e = go (number_of ds) refl e
  where
    go : (o : Option ℕ) → number_of ds ≡ o → option_map (λ n. 1 * 2 ^ length ds + n) o ≡ Some m → Splits One ds m
    go (Some r) f e = record { bit = 1; rest = r; first = refl; others = f; sum = same_some e }
    go None f e = absurd cc
splits Either ds m e = absurd cc

digit_holds-value : (d : Digit) (b x : ℕ) → digit_value d ≡ Some b → digit_holds d x ≡ (x == b)
digit_holds-value Zero b x e = ap (λ b. x == b) (same_some e)
digit_holds-value One b x e = ap (λ b. x == b) (same_some e)
digit_holds-value Either b x e = absurd cc

value-bit : (d : Digit) (b : ℕ) → digit_value d ≡ Some b → b < 2
value-bit Zero b e = let z : 0 ≡ b = same_some e in omega (arith, z)
value-bit One b e = let z : 1 ≡ b = same_some e in omega (arith, z)
value-bit Either b e = absurd cc

shifted : (a y r : ℕ) → (y == r) ≡ (a + y == a + r)
shifted a y r = go (y == r) refl
  where
    go : (t : Bool) → (y == r) ≡ t → t ≡ (a + y == a + r)
    go true e = let s : (a + y == a + r) ≡ true = grind (arith, nat_tests, e) in sym s
    go false e = let s : (a + y == a + r) ≡ false = grind (arith, nat_tests, e) in sym s

-- numbers of a bit and a rest below c are equal where both parts are
pair-eq : (x b y r c : ℕ) → x < 2 → b < 2 → y < c → r < c → (x == b && y == r) ≡ (x * c + y == b * c + r)
pair-eq zero zero y r c hx hb hy hr = rw (zero-mul c, zero-add y, zero-add r) refl
pair-eq zero (suc zero) y r c hx hb hy hr = let t : (0 * c + y == 1 * c + r) ≡ false = grind (arith, nat_tests) in sym t
pair-eq (suc zero) zero y r c hx hb hy hr = let t : (1 * c + y == 0 * c + r) ≡ false = grind (arith, nat_tests) in sym t
pair-eq (suc zero) (suc zero) y r c hx hb hy hr = shifted (1 * c) y r
pair-eq (suc (suc x)) b y r c hx hb hy hr = absurd (omega (arith, hx))
pair-eq x (suc (suc b)) y r c hx hb hy hr = absurd (omega (arith, hb))

below-twice : (b r c m : ℕ) → b < 2 → r < c → b * c + r ≡ m → m < 2 * c
below-twice zero r c m hb hr e = omega (arith, zero-mul c, e, hr)
below-twice (suc zero) r c m hb hr e = omega (arith, e, hr)
below-twice (suc (suc b)) r c m hb hr e = absurd (omega (arith, hb))

pub number_of-below : (ds : List Digit) (m : ℕ) → number_of ds ≡ Some m → m < 2 ^ length ds
number_of-below [] m e = let z : 0 ≡ m = same_some e in omega (arith, z)
number_of-below (d ∷ ds) m e = go (splits d ds m e) (number_of-below ds)
  where
    go : Splits d ds m → ((r : ℕ) → number_of ds ≡ Some r → r < 2 ^ length ds) → m < 2 ^ suc (length ds)
    go s rest = let low : s.rest < 2 ^ length ds = rest s.rest s.others in
        let bit : s.bit < 2 = value-bit d s.bit s.first in
        let twice : 2 ^ suc (length ds) ≡ 2 * 2 ^ length ds = pow-succ' 2 (length ds) in
        rw twice (below-twice s.bit s.rest (2 ^ length ds) m bit low s.sum)

-- digits that write m hold exactly of the numbers that have these lowest bits
pub pattern_holds-number : (ds : List Digit) (m n : ℕ) → number_of ds ≡ Some m → pattern_holds ds n ≡ (n % 2 ^ length ds == m)
pattern_holds-number [] m n e = let z : 0 ≡ m = same_some e in rw (mod-one n, ← z) refl
pattern_holds-number (d ∷ ds) m n e = go (splits d ds m e) (λ r. pattern_holds-number ds r n)
  where
    go : Splits d ds m → ((r : ℕ) → number_of ds ≡ Some r → pattern_holds ds n ≡ (n % 2 ^ length ds == r)) → (digit_holds d (bit_of n (length ds)) && pattern_holds ds n) ≡ (n % 2 ^ suc (length ds) == m)
    go s rest =
        rw (digit_holds-value d s.bit (bit_of n (length ds)) s.first, rest s.rest s.others, mod-bit n (length ds), ← s.sum)
        (pair-eq (bit_of n (length ds)) s.bit (n % 2 ^ length ds) s.rest (2 ^ length ds) (mod-lt (n / 2 ^ length ds) (omega arith)) (value-bit d s.bit s.first) (mod-lt n (pow_pos (length ds))) (number_of-below ds s.rest s.others))

-- ---- equal in either order

turned : (m n : ℕ) → (m == n) ≡ (n == m)
turned m n = go (m == n) refl
  where
    go : (t : Bool) → (m == n) ≡ t → t ≡ (n == m)
    go true e = let s : (n == m) ≡ true = grind (arith, nat_tests, e) in sym s
    go false e = let s : (n == m) ≡ false = grind (arith, nat_tests, e) in sym s

holds-turned : (ds es : List Digit) (m n : ℕ) → length ds ≡ length es → number_of ds ≡ Some m → number_of es ≡ Some n → pattern_holds es m ≡ pattern_holds ds n
holds-turned ds es m n same d e =
    pattern_holds-number es n m e ∙ ap (λ x. x == n) (mod-eq_of_lt (subst (λ k. m < 2 ^ k) same (number_of-below ds m d)))
    ∙ turned m n ∙ sym (pattern_holds-number ds m n d ∙ ap (λ x. x == m) (mod-eq_of_lt (subst (λ k. n < 2 ^ k) (sym same) (number_of-below es n e))))

hold_of-turned : (ds es : List Digit) → length ds ≡ length es → unwrap_or (hold_of es ds) (unwrap_or (hold_of ds es) Open) ≡ unwrap_or (hold_of ds es) (unwrap_or (hold_of es ds) Open)
hold_of-turned ds es same = go (number_of ds) (number_of es) refl refl
  where
    -- whether the pattern holds of a number, where there is one
    holds : List Digit → Option ℕ → Option Truth
    holds ds o = option_map (λ n. truth_of (pattern_holds ds n)) o

    go : (o p : Option ℕ) → number_of ds ≡ o → number_of es ≡ p → unwrap_or (holds es o) (unwrap_or (holds ds p) Open) ≡ unwrap_or (holds ds p) (unwrap_or (holds es o) Open)
    go (Some m) (Some n) e f = ap truth_of (holds-turned ds es m n same e f)
    go (Some m) None e f = refl
    go None (Some n) e f = refl
    go None None e f = refl

equal_digits-turned : (ds es : List Digit) → equal_digits ds es ≡ equal_digits es ds
equal_digits-turned ds es = go (length ds == length es) refl
  where
    go : (t : Bool) → (length ds == length es) ≡ t → (if t then unwrap_or (hold_of es ds) (unwrap_or (hold_of ds es) Open) else Open) ≡ equal_digits es ds
    go true e = let same : length ds ≡ length es = grind (arith, nat_tests, e) in rw (← turned (length ds) (length es), e) (hold_of-turned ds es same)
    go false e = rw (← turned (length ds) (length es), e) refl

equivalence-turned : (a b : Truth) → equivalence a b ≡ equivalence b a
equivalence-turned Yes Yes = refl
equivalence-turned Yes No = refl
equivalence-turned Yes Open = refl
equivalence-turned No Yes = refl
equivalence-turned No No = refl
equivalence-turned No Open = refl
equivalence-turned Open Yes = refl
equivalence-turned Open No = refl
equivalence-turned Open Open = refl

pub equal_is_symmetric : EqualIsSymmetric
equal_is_symmetric (ATruth a) (ATruth b) = equivalence-turned a b
equal_is_symmetric (ANumber x) (ANumber y) = ap truth_of (int_eq_equiv.symm x y)
equal_is_symmetric (APattern ds) (APattern es) = equal_digits-turned ds es
equal_is_symmetric (ATruth a) (ANumber y) = refl
equal_is_symmetric (ATruth a) (APattern es) = refl
equal_is_symmetric (ANumber x) (ATruth b) = refl
equal_is_symmetric (ANumber x) (APattern es) = refl
equal_is_symmetric (APattern ds) (ATruth b) = refl
equal_is_symmetric (APattern ds) (ANumber y) = refl
