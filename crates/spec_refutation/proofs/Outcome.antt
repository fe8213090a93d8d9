-- A log either refutes or fails at one number.
use Rattle.std.proofs.Common.{◌≡◌, ◌≢◌, ℕ, zero, suc, ◌<◌, ◌≤◌, Bool, true, false, ◌⊎◌, inl, inr, List, [], ◌∷◌, ℤ, length, refl, sym, ◌∙◌, ap, ⊎_elim, arith}
use Rattle.std.proofs.lemmas.Bool.{both_ways, cases_order, cases_lt}
use Rattle.spec_refutation.specs.Derivation.{Step}
use Rattle.spec_refutation.specs.Refutation.{step_at, follows, EachFollows, Refutes, FailsAtStep, FailsAtEnd, Fails}

module _ (clauses : List (List ℤ)) (steps : List Step) where
  -- what refutes does not fail
  pub refutes_or_fails : (n : ℕ) → Refutes clauses steps → Fails clauses steps n → ⊥
  refutes_or_fails n r f = ⊎_elim
      (λ (s : FailsAtStep clauses steps n). both_ways (follows clauses steps n) s.here (r.each n s.within))
      (λ (e : FailsAtEnd clauses steps n). e.none r.empty.0 (omega (arith, e.end, r.empty.1)) r.empty.2) f

  -- two first steps that do not follow are one
  same_step : (m n : ℕ) → FailsAtStep clauses steps m → FailsAtStep clauses steps n → m ≡ n
  same_step m n a b = ⊎_elim (λ e. e) (λ o. ⊎_elim (λ lt. absurd (both_ways (follows clauses steps m) a.here (b.before m lt))) (λ lt. absurd (both_ways (follows clauses steps n) b.here (a.before n lt))) o) (cases_order m n)

  step_or_end : (m n : ℕ) → FailsAtStep clauses steps m → FailsAtEnd clauses steps n → ⊥
  step_or_end m n a b = both_ways (follows clauses steps m) a.here (b.each m (omega (arith, a.within, b.end)))

  -- a log fails at one number
  pub one_failure : (m n : ℕ) → Fails clauses steps m → Fails clauses steps n → m ≡ n
  one_failure m n (inl a) (inl b) = same_step m n a b
  one_failure m n (inl a) (inr b) = absurd (step_or_end m n a b)
  one_failure m n (inr a) (inl b) = absurd (step_or_end n m b a)
  one_failure m n (inr a) (inr b) = a.end ∙ sym b.end

  -- the steps below a number all follow, or one of them is the first that does not
  all_or_first : (n : ℕ) → n ≤ length steps
      → EachFollows clauses steps n ⊎ ((k : ℕ) × FailsAtStep clauses steps k)
  all_or_first zero h = inl (λ i lt. absurd (omega arith))
  all_or_first (suc n) h = ⊎_elim (λ each. go (follows clauses steps n) refl each) (λ f. inr f) (all_or_first n (omega arith))
    where
      go : (b : Bool) → follows clauses steps n ≡ b → EachFollows clauses steps n
          → EachFollows clauses steps (suc n) ⊎ ((k : ℕ) × FailsAtStep clauses steps k)
      go true is each = inl (λ i lt. ⊎_elim (λ below. each i below) (λ ge. let e : i ≡ n = omega arith in ap (follows clauses steps) e ∙ is) (cases_lt i n))
      go false is each = inr (n, record { within = h; before = each; here = is })

  -- a step below a number is empty, or none is
  empty_or_none : (n : ℕ) → ((i : ℕ) × (i < n) × ((step_at steps i).0 ≡ [])) ⊎ ((i : ℕ) → i < n → (step_at steps i).0 ≢ [])
  empty_or_none zero = inr (λ i lt. absurd (omega arith))
  empty_or_none (suc n) = ⊎_elim (λ some. inl (some.0, omega (arith, some.1), some.2)) (λ none. go (step_at steps n).0 refl none) (empty_or_none n)
    where
      go : (c : List ℤ) → (step_at steps n).0 ≡ c → ((i : ℕ) → i < n → (step_at steps i).0 ≢ [])
          → ((i : ℕ) × (i < suc n) × ((step_at steps i).0 ≡ [])) ⊎ ((i : ℕ) → i < suc n
          → (step_at steps i).0 ≢ [])
      go [] is none = inl (n, omega arith, is)
      go (l ∷ ls) is none = inr (λ i lt e. ⊎_elim (λ below. none i below e) (λ ge. let same : i ≡ n = omega arith in filled (sym (ap (λ k. (step_at steps k).0) same) ∙ e)) (cases_lt i n))
        where
          filled : (step_at steps n).0 ≡ [] → ⊥
          filled e = cc

  -- a log refutes or fails
  pub outcome : Refutes clauses steps ⊎ ((n : ℕ) × Fails clauses steps n)
  outcome = ⊎_elim
      (λ each. ⊎_elim (λ some. inl (record { each = each; empty = some })) (λ none. inr (length steps, inr (record { end = refl; each = each; none = none }))) (empty_or_none (length steps)))
      (λ f. inr (f.0, inl f.1)) (all_or_first (length steps) (omega arith))
