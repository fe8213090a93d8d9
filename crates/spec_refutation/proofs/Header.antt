-- Where the first line breaks off, no first line begins.
use Rattle.std.proofs.Common.{◌≡◌, ◌≢◌, ℕ, ◌+◌, ◌^◌, ◌<◌, ◌≤◌, false, List, [], ◌∷◌, ◌++◌, refl, sym, ap, ◌∙◌, arith}
use Rattle.std.specs.Prelude.{decimal}
use Rattle.std.proofs.lemmas.List.{append_assoc}
use Rattle.spec_refutation.specs.Text.{begins_with_digit, spaced_numbers, first_line}
use Rattle.spec_refutation.specs.Reading.{AreCounts, NoFirstLine}
use Rattle.spec_refutation.proofs.Numbers.{same_number}
use Rattle.spec_refutation.proofs.Lines.{tails, first_line_is}
use Rattle.spec_refutation.specs.Scans.{NoSpacedNumber}

-- the counts in a first line, each after a space
pub spaced_counts : (w d k : ℕ) (z : List ℕ)
    → spaced_numbers (w ∷ d ∷ k ∷ []) ++ z ≡ (32 ∷ decimal w) ++ ((32 ∷ decimal d) ++ ((32 ∷ decimal k) ++ z))
spaced_counts w d k z =
    append_assoc (32 ∷ decimal w) ((32 ∷ decimal d) ++ ((32 ∷ decimal k) ++ [])) z
    ∙ ap (λ t. (32 ∷ decimal w) ++ t) (append_assoc (32 ∷ decimal d) ((32 ∷ decimal k) ++ []) z
    ∙ ap (λ t. (32 ∷ decimal d) ++ t) (append_assoc (32 ∷ decimal k) [] z))

-- the one number after a space
peel : (m n : ℕ) (t x y : List ℕ) → m ≤ 18446744073709551615 → n ≤ 18446744073709551615
    → begins_with_digit x ≡ false → begins_with_digit y ≡ false → t ≡ (32 ∷ decimal m) ++ x
    → t ≡ (32 ∷ decimal n) ++ y → (m ≡ n) × (x ≡ y)
peel m n t x y hm hn hx hy e f = same_number m n x y (omega arith) (omega arith) hx hy (tails (sym e ∙ f))

module _ (text t : List ℕ) (first : text ≡ 112 ∷ t) where
  counts_are : (w d k : ℕ) (y : List ℕ) → text ≡ first_line w d k ++ y
      → t ≡ (32 ∷ decimal w) ++ ((32 ∷ decimal d) ++ ((32 ∷ decimal k) ++ (10 ∷ y)))
  counts_are w d k y f = tails (sym first ∙ f ∙ first_line_is w d k y) ∙ spaced_counts w d k (10 ∷ y)

  module _ (v : ℕ) (t1 : List ℕ) (v_fits : v ≤ 2147483647) (v_read : t ≡ (32 ∷ decimal v) ++ t1) (v_ends : begins_with_digit t1 ≡ false) where
    after_vars : (w d k : ℕ) (y : List ℕ) → AreCounts w d k → text ≡ first_line w d k ++ y
        → t1 ≡ (32 ∷ decimal d) ++ ((32 ∷ decimal k) ++ (10 ∷ y))
    after_vars w d k y good f = (peel v w t t1 _ (omega arith) (omega (arith, good.few_vars)) v_ends refl v_read (counts_are w d k y f)).1

    pub no_clauses_count : NoSpacedNumber 0 18446744073709551615 t1 → NoFirstLine text
    no_clauses_count none w d k y good f = none d _ (omega arith) (omega (arith, good.few_lines)) refl (after_vars w d k y good f)

    module _ (c : ℕ) (t2 : List ℕ) (c_fits : c ≤ 18446744073709551615) (c_read : t1 ≡ (32 ∷ decimal c) ++ t2) (c_ends : begins_with_digit t2 ≡ false) where
      after_clauses : (w d k : ℕ) (y : List ℕ) → AreCounts w d k → text ≡ first_line w d k ++ y
          → (c ≡ d) × (t2 ≡ (32 ∷ decimal k) ++ (10 ∷ y))
      after_clauses w d k y good f = peel c d t1 t2 _ c_fits (omega (arith, good.few_lines)) c_ends refl c_read (after_vars w d k y good f)

      pub no_steps_count : NoSpacedNumber 0 18446744073709551615 t2 → NoFirstLine text
      no_steps_count none w d k y good f = none k _ (omega arith) (omega (arith, good.few_lines)) refl (after_clauses w d k y good f).1

      module _ (s : ℕ) (t3 : List ℕ) (s_fits : s ≤ 18446744073709551615) (s_read : t2 ≡ (32 ∷ decimal s) ++ t3) (s_ends : begins_with_digit t3 ≡ false) where
        after_steps : (w d k : ℕ) (y : List ℕ) → AreCounts w d k → text ≡ first_line w d k ++ y
            → (s ≡ k) × (t3 ≡ 10 ∷ y)
        after_steps w d k y good f = peel s k t2 t3 (10 ∷ y) s_fits (omega (arith, good.few_lines)) s_ends refl s_read (after_clauses w d k y good f).1

        pub no_first_end : ((y : List ℕ) → t3 ≢ 10 ∷ y) → NoFirstLine text
        no_first_end none w d k y good f = none y (after_steps w d k y good f).1

        pub too_many_lines : (c + s < 2 ^ 64 → ⊥) → NoFirstLine text
        too_many_lines over w d k y good f =
            let p : c ≡ d = (after_clauses w d k y good f).0 in
            let q : s ≡ k = (after_steps w d k y good f).0 in
            over (omega (arith, good.few_lines))
