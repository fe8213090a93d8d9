-- The number at which a log fails is told by computing, and there is none exactly where it refutes.
use Rattle.std.proofs.Common.{◌≡◌, ◌≢◌, inl, inr, ⊎_elim, ℕ, zero, suc, ◌<◌, ℤ, true, false, List, [], ◌∷◌, ◌++◌, map, take, length, Some, None, refl, sym, ap, ◌∙◌, subst, append-nil, arith}
use Rattle.std.specs.Prelude.{option_map}
use Rattle.std.specs.List.{list_any}
use Rattle.std.proofs.lemmas.Bool.{cond-true, cond-false, or_left, or_right, or_from}
use Rattle.std.proofs.lemmas.List.{append_assoc}
use Rattle.spec_refutation.specs.Derivation.{Step, derives}
use Rattle.spec_refutation.specs.Refutation.{step_at, follows, EachFollows, Refutes, FailsAtStep, Fails, first_lapse, is_empty, lapse_or_end, failure}
use Rattle.spec_refutation.proofs.Outcome.{outcome}

-- a step behind the first follows as it does where the first one's clause is one of the clauses
shifted : (known : List (List ℤ)) (s : Step) (ss : List Step) (i : ℕ) → follows known (s ∷ ss) (suc i) ≡ follows (known ++ s.0 ∷ []) ss i
shifted known s ss i = ap (λ k. derives k (step_at ss i)) (sym (append_assoc known (s.0 ∷ []) (map (λ t. t.0) (take i ss))))

first_here : (known : List (List ℤ)) (s : Step) (ss : List Step) → follows known (s ∷ ss) 0 ≡ derives known s
first_here known s ss = ap (λ k. derives k s) (append-nil known)

no_lapse : (known : List (List ℤ)) (ss : List Step) → EachFollows known ss (length ss) → first_lapse known ss ≡ None
no_lapse known [] each = refl
no_lapse known (s ∷ ss) each =
    cond-true (derives known s) (option_map suc (first_lapse (known ++ s.0 ∷ []) ss)) (Some 0) (sym (first_here known s ss) ∙ each 0 (omega arith))
    ∙ ap (option_map suc) (no_lapse (known ++ s.0 ∷ []) ss (λ i lt. sym (shifted known s ss i) ∙ each (suc i) (omega (arith, lt))))

lapse_at : (known : List (List ℤ)) (ss : List Step) (n : ℕ) → FailsAtStep known ss n → first_lapse known ss ≡ Some n
lapse_at known [] n f = absurd (let lt = f.within in omega arith)
lapse_at known (s ∷ ss) zero f = cond-false (derives known s) (option_map suc (first_lapse (known ++ s.0 ∷ []) ss)) (Some 0) (sym (first_here known s ss) ∙ f.here)
lapse_at known (s ∷ ss) (suc n) f =
    cond-true (derives known s) (option_map suc (first_lapse (known ++ s.0 ∷ []) ss)) (Some 0) (sym (first_here known s ss) ∙ f.before 0 (omega arith))
    ∙ ap (option_map suc) (lapse_at (known ++ s.0 ∷ []) ss n (record {
      within = omega (arith, f.within);
      before = λ i lt. sym (shifted known s ss i) ∙ f.before (suc i) (omega (arith, lt));
      here = sym (shifted known s ss n) ∙ f.here;
    }))

empty_step : (s : Step) → s.0 ≡ [] → is_empty s ≡ true
empty_step ([], hints) e = refl
empty_step (l ∷ ls, hints) e = absurd (cc)

some_empty : (ss : List Step) (i : ℕ) → i < length ss → (step_at ss i).0 ≡ [] → list_any is_empty ss ≡ true
some_empty [] i lt e = absurd (omega arith)
some_empty (s ∷ ss) zero lt e = or_left (is_empty s) (list_any is_empty ss) (empty_step s e)
some_empty (s ∷ ss) (suc i) lt e = or_right (is_empty s) (list_any is_empty ss) (some_empty ss i (omega (arith, lt)) e)

filled_step : (s : Step) → s.0 ≢ [] → is_empty s ≡ false
filled_step ([], hints) e = absurd (e refl)
filled_step (l ∷ ls, hints) e = refl

none_empty : (ss : List Step) → ((i : ℕ) → i < length ss → (step_at ss i).0 ≢ []) → list_any is_empty ss ≡ false
none_empty [] h = refl
none_empty (s ∷ ss) h = or_from (is_empty s) (list_any is_empty ss) (filled_step s (h 0 (omega arith))) (none_empty ss (λ i lt. h (suc i) (omega (arith, lt))))

module _ (clauses : List (List ℤ)) (steps : List Step) where
  -- a log that refutes fails at no number
  pub refutes_tells : Refutes clauses steps → failure clauses steps ≡ None
  refutes_tells r =
      ap (λ o. lapse_or_end o steps) (no_lapse clauses steps r.each)
      ∙ cond-true (list_any is_empty steps) None (Some (length steps)) (some_empty steps r.empty.0 r.empty.1 r.empty.2)

  -- one that fails at a number does at this one
  pub fails_tells : (n : ℕ) → Fails clauses steps n → failure clauses steps ≡ Some n
  fails_tells n (inl f) = ap (λ o. lapse_or_end o steps) (lapse_at clauses steps n f)
  fails_tells n (inr f) =
      let each : EachFollows clauses steps (length steps) = let P : ℕ → Type 0 = EachFollows clauses steps in subst P f.end f.each in
      ap (λ o. lapse_or_end o steps) (no_lapse clauses steps each)
      ∙ cond-false (list_any is_empty steps) None (Some (length steps)) (none_empty steps (λ i lt. f.none i (omega (arith, lt, f.end))))
      ∙ ap Some (sym f.end)

  -- and the other way round
  pub told_refutes : failure clauses steps ≡ None → Refutes clauses steps
  told_refutes e = ⊎_elim (λ r. r) (λ f. absurd (let some = sym e ∙ fails_tells f.0 f.1 in cc)) (outcome clauses steps)

  pub told_fails : (n : ℕ) → failure clauses steps ≡ Some n → Fails clauses steps n
  told_fails n e = ⊎_elim (λ r. absurd (let none = sym e ∙ refutes_tells r in cc))
      (λ f. let P : ℕ → Type 0 = Fails clauses steps in let some = sym (fails_tells f.0 f.1) ∙ e in let same : f.0 ≡ n = cc in subst P same f.1) (outcome clauses steps)
