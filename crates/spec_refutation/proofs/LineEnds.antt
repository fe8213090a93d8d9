-- Where a line breaks off, no line of its kind begins.
use Rattle.std.proofs.Common.{◌≡◌, ◌≢◌, ℕ, ◌^◌, ◌<◌, ◌≤◌, ℤ, List, ◌∷◌, ◌++◌, refl, sym, ◌∙◌, arith}
use Rattle.spec_refutation.specs.Derivation.{Step}
use Rattle.spec_refutation.specs.Text.{step_line, spaced_numbers}
use Rattle.spec_refutation.specs.Reading.{IsHint, IsStep, NoClauseLine, NoStepLine}
use Rattle.spec_refutation.proofs.Lines.{tails, same_literals, same_numbers, no_literal_at_end, no_literal_at_colon, no_number_at_end, clause_line_is, step_line_is}
use Rattle.spec_refutation.specs.Scans.{LiteralsEnd, HintsEnd}

module _ (vars : ℕ) (few : vars ≤ 2147483647) (text t : List ℕ) (ls : List ℤ) (r : List ℕ) (literals : LiteralsEnd vars t ls r) where
  -- after a clause's literals
  pub clause_unended : text ≡ 99 ∷ t → ((y : List ℕ) → r ≢ 10 ∷ y) → NoClauseLine vars text
  clause_unended e none d y good f =
      none y (same_literals vars few ls d r (10 ∷ y) literals.good good literals.stop (λ _. refl) literals.none (no_literal_at_end vars few y)
      (sym literals.read ∙ tails (sym e ∙ f ∙ clause_line_is d y))).1

  module _ (lines : ℕ) (e : text ≡ 115 ∷ t) where
    colon : (s : Step) (y : List ℕ) → IsStep vars lines s → text ≡ step_line s ++ y
        → r ≡ 32 ∷ 58 ∷ (spaced_numbers s.1 ++ (10 ∷ y))
    colon s y good f =
        (same_literals vars few ls s.0 r (32 ∷ 58 ∷ (spaced_numbers s.1 ++ (10 ∷ y))) literals.good good.clause literals.stop (λ _. refl) literals.none (no_literal_at_colon vars few (spaced_numbers s.1 ++ (10 ∷ y)))
        (sym literals.read ∙ tails (sym e ∙ f ∙ step_line_is s y))).1

    -- after a step's literals
    pub step_unspaced : ((y : List ℕ) → r ≢ 32 ∷ y) → NoStepLine vars lines text
    step_unspaced none s y good f = none (58 ∷ (spaced_numbers s.1 ++ (10 ∷ y))) (colon s y good f)

    -- after the space behind them
    pub step_uncoloned : (q : List ℕ) → r ≡ 32 ∷ q → ((y : List ℕ) → q ≢ 58 ∷ y) → NoStepLine vars lines text
    step_uncoloned q g none s y good f = none (spaced_numbers s.1 ++ (10 ∷ y)) (tails (sym g ∙ colon s y good f))

    -- after the hints
    pub step_unended : (q p : List ℕ) (hs z : List ℕ) → lines < 2 ^ 64 → r ≡ 32 ∷ q → q ≡ 58 ∷ p
        → HintsEnd lines p hs z → ((y : List ℕ) → z ≢ 10 ∷ y) → NoStepLine vars lines text
    step_unended q p hs z fits g h hints none s y good f =
        let small : (n : ℕ) → IsHint lines n → n < 2 ^ 64 = λ n k. omega (arith, k.within) in
        none y (same_numbers (IsHint lines) small hs s.1 z (10 ∷ y) hints.good good.hints hints.stop (λ _. refl) hints.none (no_number_at_end (IsHint lines) small y)
        (sym hints.read ∙ tails (sym h ∙ tails (sym g ∙ colon s y good f)))).1
