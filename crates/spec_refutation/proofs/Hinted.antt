-- Where a log refutes clauses, each hint is the number of a clause or a step.
use Rattle.std.proofs.Common.{◌≡◌, ℕ, zero, suc, ◌+◌, ◌<◌, ◌≤◌, ℤ, false, true, neg_ℤ, List, [], ◌∷◌, map, take, length, Option, Some, None, refl, arith}
use Rattle.std.specs.Option.{option_map_or, option_and_then}
use Rattle.std.specs.List.{AllByRecursion}
use Rattle.std.proofs.lemmas.Bool.{false≢true}
use Rattle.std.proofs.lemmas.List.{length-append, length-map, length-take-le}
use Rattle.std.proofs.lemmas.Option.{slice_get_within}
use Rattle.spec_refutation.specs.Derivation.{Step, open_literals, the_only, falsified, clause_numbered, leads}
use Rattle.spec_refutation.specs.Refutation.{clauses_before, step_at, Refutes}
use Rattle.spec_refutation.specs.Reading.{IsHint}

-- the number of a clause is at least 1 and at most their number
numbered_within : (known : List (List ℤ)) (lines : ℕ) → length known ≤ lines → (h : ℕ) (c : List ℤ)
    → clause_numbered known h ≡ Some c → IsHint lines h
numbered_within known lines few zero c e = absurd cc
numbered_within known lines few (suc k) c e = let lt : k < length known = slice_get_within known k c e in record { some = omega arith; within = omega (arith, lt, few) }

-- where hints lead to a falsified clause, each is the number of a clause
leads_within : (known : List (List ℤ)) (lines : ℕ) → length known ≤ lines → (hs : List ℕ) (set : List ℤ)
    → leads known set hs ≡ true → AllByRecursion (IsHint lines) hs
leads_within known lines few [] set e = absurd (false≢true e)
leads_within known lines few (h ∷ []) set e = go (clause_numbered known h) refl e
  where
    go : (o : Option (List ℤ)) → clause_numbered known h ≡ o → option_map_or (falsified set) o false ≡ true
        → AllByRecursion (IsHint lines) (h ∷ [])
    go None is e = absurd (false≢true e)
    go (Some c) is e = (numbered_within known lines few h c is, tt)
leads_within known lines few (h ∷ g ∷ hs) set e = go (clause_numbered known h) refl e (leads_within known lines few (g ∷ hs))
  where
    go : (o : Option (List ℤ)) → clause_numbered known h ≡ o
        → option_map_or (λ l. leads known (l ∷ set) (g ∷ hs)) (option_and_then (λ c. the_only (open_literals set c)) o) false ≡ true
        → ((set : List ℤ) → leads known set (g ∷ hs) ≡ true → AllByRecursion (IsHint lines) (g ∷ hs))
        → AllByRecursion (IsHint lines) (h ∷ g ∷ hs)
    go None is e ih = absurd (false≢true e)
    go (Some c) is e ih = at (the_only (open_literals set c)) e
      where
        at : (p : Option ℤ) → option_map_or (λ l. leads known (l ∷ set) (g ∷ hs)) p false ≡ true
            → AllByRecursion (IsHint lines) (h ∷ g ∷ hs)
        at None e = absurd (false≢true e)
        at (Some l) e = (numbered_within known lines few h c is, ih (l ∷ set) e)

-- what holds of the step at each place holds of each step
all_at : (P : Step → Type 0) (steps : List Step) → ((i : ℕ) → i < length steps → P (step_at steps i))
    → AllByRecursion P steps
all_at P [] each = tt
all_at P (s ∷ ss) each = (each zero (omega arith), all_at P ss (λ i lt. each (suc i) (omega (arith, lt))))

-- before a step stand at most all clauses and steps
few_before : (clauses : List (List ℤ)) (steps : List Step) (i : ℕ) → i < length steps
    → length (clauses_before clauses steps i) ≤ length clauses + length steps
few_before clauses steps i lt =
    omega (arith, lt, length-append clauses (map (λ (s : Step). s.0) (take i steps)), length-map (take i steps) (λ (s : Step). s.0), length-take-le i steps (omega (arith, lt)))

pub refutes_within : (clauses : List (List ℤ)) (steps : List Step) → Refutes clauses steps
    → AllByRecursion (λ (s : Step). AllByRecursion (IsHint (length clauses + length steps)) s.1) steps
refutes_within clauses steps r =
    let lines = length clauses + length steps in
    all_at (λ (s : Step). AllByRecursion (IsHint lines) s.1) steps
    (λ i lt. leads_within (clauses_before clauses steps i) lines (few_before clauses steps i lt) (step_at steps i).1 (map neg_ℤ (step_at steps i).0) (r.each i lt))
