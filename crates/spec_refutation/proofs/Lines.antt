-- The texts of runs of literals and of numbers: what follows one is told by its text. The lines with their ends in front of what follows.
use Rattle.std.proofs.Common.{◌≡◌, ℕ, suc, ◌^◌, ◌<◌, ◌≤◌, ℤ, pos, negsuc, nat_abs, false, List, [], ◌∷◌, ◌++◌, length, get_or, refl, sym, ap, ◌∙◌, arith}
use Rattle.std.specs.Prelude.{decimal}
use Rattle.std.specs.Fmt.{signed_decimal}
use Rattle.std.specs.List.{AllByRecursion}
use Rattle.std.proofs.lemmas.Bool.{both_ways}
use Rattle.std.proofs.lemmas.List.{append_assoc}
use Rattle.spec_refutation.specs.Derivation.{Step}
use Rattle.spec_refutation.specs.Text.{begins_with_digit, spaced_literals, spaced_numbers, first_line, clause_line, step_line}
use Rattle.spec_refutation.specs.Reading.{IsLiteral, IsClause}
use Rattle.spec_refutation.proofs.Numbers.{same_number, begins-decimal}
use Rattle.spec_refutation.proofs.Runs.{NoItem, same_run}

-- where a number ends
abbrev pub NoDigit : List ℕ → Type 0
NoDigit text = begins_with_digit text ≡ false

pub heads : {a b : ℕ} {x y : List ℕ} → a ∷ x ≡ b ∷ y → a ≡ b
heads e = ap (λ bs. get_or bs 0 0) e

pub tails : {a b : ℕ} {x y : List ℕ} → a ∷ x ≡ b ∷ y → x ≡ y
tails {a} {b} {x} {y} e = cc

literal_small : (vars : ℕ) (l : ℤ) → vars ≤ 2147483647 → IsLiteral vars l → nat_abs l < 2 ^ 64
literal_small vars l few h = omega (arith, h.within)

-- two literals with one text
pub same_literal : (l m : ℤ) (x y : List ℕ) → nat_abs l < 2 ^ 64 → nat_abs m < 2 ^ 64 → NoDigit x → NoDigit y
    → signed_decimal l ++ x ≡ signed_decimal m ++ y → (l ≡ m) × (x ≡ y)
same_literal (pos a) (pos b) x y ha hb hx hy e = let p = same_number a b x y ha hb hx hy e in (ap pos p.0, p.1)
same_literal (pos a) (negsuc b) x y ha hb hx hy e = absurd (both_ways (begins_with_digit (signed_decimal (negsuc b) ++ y)) refl (sym (ap begins_with_digit e) ∙ begins-decimal a x ha))
same_literal (negsuc a) (pos b) x y ha hb hx hy e = absurd (both_ways (begins_with_digit (signed_decimal (negsuc a) ++ x)) refl (ap begins_with_digit e ∙ begins-decimal b y hb))
same_literal (negsuc a) (negsuc b) x y ha hb hx hy e = let p = same_number (suc a) (suc b) x y ha hb hx hy (tails e) in let q : a ≡ b = omega (arith, p.0) in (ap negsuc q, p.1)

module _ (vars : ℕ) (few : vars ≤ 2147483647) where
  -- a space and a literal do not begin the text
  abbrev pub NoLiteral : List ℕ → Type 0
  NoLiteral text = NoItem (λ l. 32 ∷ signed_decimal l) (IsLiteral vars) NoDigit text

  pub same_literals : (cs ds : List ℤ) (r t : List ℕ) → IsClause vars cs → IsClause vars ds
      → (0 < length cs → NoDigit r) → (0 < length ds → NoDigit t)
      → NoLiteral r → NoLiteral t → spaced_literals cs ++ r ≡ spaced_literals ds ++ t → (cs ≡ ds) × (r ≡ t)
  same_literals cs ds r t = same_run (λ l. 32 ∷ signed_decimal l) (IsLiteral vars) NoDigit (λ a z. refl)
      (λ a b x y ga gb sx sy e. same_literal a b x y (literal_small vars a few ga) (literal_small vars b few gb) sx sy (tails e)) cs ds r t

  -- nor do a line feed and a colon after a space
  pub no_literal_at_end : (t : List ℕ) → NoLiteral (10 ∷ t)
  no_literal_at_end t l z g s e = let p : ◌≡◌ {A = ℕ} 10 32 = heads e in omega arith

  pub no_literal_at_colon : (t : List ℕ) → NoLiteral (32 ∷ 58 ∷ t)
  no_literal_at_colon t (pos n) z g s e = both_ways (begins_with_digit (58 ∷ t)) refl (ap begins_with_digit (tails e) ∙ begins-decimal n z (literal_small vars (pos n) few g))
  no_literal_at_colon t (negsuc n) z g s e = let p : ◌≡◌ {A = ℕ} 58 45 = heads (tails e) in omega arith

-- the same of numbers that have room in 64 bits
module _ (Good : ℕ → Type 0) (small : (n : ℕ) → Good n → n < 2 ^ 64) where
  abbrev pub NoNumber : List ℕ → Type 0
  NoNumber text = NoItem (λ n. 32 ∷ decimal n) Good NoDigit text

  pub same_numbers : (ms ns : List ℕ) (r t : List ℕ) → AllByRecursion Good ms → AllByRecursion Good ns
      → (0 < length ms → NoDigit r) → (0 < length ns → NoDigit t)
      → NoNumber r → NoNumber t → spaced_numbers ms ++ r ≡ spaced_numbers ns ++ t → (ms ≡ ns) × (r ≡ t)
  same_numbers ms ns r t = same_run (λ n. 32 ∷ decimal n) Good NoDigit (λ a z. refl)
      (λ a b x y ga gb sx sy e. same_number a b x y (small a ga) (small b gb) sx sy (tails e)) ms ns r t

  pub no_number_at_end : (t : List ℕ) → NoNumber (10 ∷ t)
  no_number_at_end t n z g s e = let p : ◌≡◌ {A = ℕ} 10 32 = heads e in omega arith

-- the lines with their ends in front of what follows
pub clause_line_is : (c : List ℤ) (x : List ℕ) → clause_line c ++ x ≡ 99 ∷ (spaced_literals c ++ (10 ∷ x))
clause_line_is c x = ap (λ t. 99 ∷ t) (append_assoc (spaced_literals c) (10 ∷ []) x)

pub step_line_is : (s : Step) (x : List ℕ)
    → step_line s ++ x ≡ 115 ∷ (spaced_literals s.0 ++ (32 ∷ 58 ∷ (spaced_numbers s.1 ++ (10 ∷ x))))
step_line_is s x = ap (λ t. 115 ∷ t) (append_assoc (spaced_literals s.0) (32 ∷ 58 ∷ (spaced_numbers s.1 ++ 10 ∷ [])) x
    ∙ ap (λ t. spaced_literals s.0 ++ (32 ∷ 58 ∷ t)) (append_assoc (spaced_numbers s.1) (10 ∷ []) x))

pub first_line_is : (v c s : ℕ) (x : List ℕ)
    → first_line v c s ++ x ≡ 112 ∷ (spaced_numbers (v ∷ c ∷ s ∷ []) ++ (10 ∷ x))
first_line_is v c s x = ap (λ t. 112 ∷ t) (append_assoc (spaced_numbers (v ∷ c ∷ s ∷ [])) (10 ∷ []) x)
