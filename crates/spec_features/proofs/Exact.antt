-- The clauses of constraints and pins hold exactly where a configuration fits.
use Rattle.std.proofs.Common.{◌≡◌, ℕ, ◌+◌, ◌<◌, ◌≤◌, ℤ, Bool, true, false, ◌||◌, ◌&&◌, List, [], ◌∷◌, ◌++◌, length, Option, Some, None, refl, sym, ap, ◌∙◌, subst, arith, add-zero}
use Rattle.std.specs.Prelude.{flat_map, position, slice_index_or}
use Rattle.std.specs.List.{list_all, filter_map, cons_option, AllByRecursion}
use Rattle.std.specs.Option.{option_map}
use Rattle.std.proofs.lemmas.Bool.{and_parts, and_from}
use Rattle.std.proofs.lemmas.List.{length-append}
use Rattle.std.proofs.lemmas.List.Folds.{list_all-append}
use Rattle.std.proofs.lemmas.List.Quantifiers.{position-Some}
use Rattle.spec_refutation.specs.Literals.{literal_true, clause_true, satisfies}
use Rattle.spec_refutation.specs.Reading.{IsClause}
use Rattle.spec_refutation.specs.First.{assignment}
use Rattle.spec_refutation.proofs.Agreement.{clauses_wider, Agree}
use Rattle.spec_features.specs.Fact.{same_truth}
use Rattle.spec_features.specs.Formula.{Formula, holds, Uses}
use Rattle.spec_features.specs.Fits.{PinOf, has_state, agrees}
use Rattle.spec_features.specs.Clauses.{signed, encoded, all_encoded, last_of, constraint_clauses, constraints_from, pin_clause}
use Rattle.spec_features.proofs.Encoding.{signed_true, signed_literal, uses_wider, auxiliaries, Carries, carries_both, carries_parts, last_is, grows, all_both, literal_bounded, clauses_bounded, Says, says}
use Rattle.spec_features.proofs.Assignments.{assignment_at}

-- ---- constraints, one behind the other

abbrev pub all_auxiliaries : (ℕ → Bool) → List Formula → List Bool
all_auxiliaries u [] = []
all_auxiliaries u (f ∷ fs) = auxiliaries u f ++ all_auxiliaries u fs

pub last_of_is : (u : ℕ → Bool) (last : ℕ) (fs : List Formula) → last_of last fs ≡ last + length (all_auxiliaries u fs)
last_of_is u last [] = sym (add-zero last)
last_of_is u last (f ∷ fs) =
    let p = last_of_is u (encoded last f).last fs in
    let q = last_is u last f in
    omega (arith, p, q, length-append (auxiliaries u f) (all_auxiliaries u fs))

abbrev pub connectives_from : ℕ → List Formula → List (List ℤ)
connectives_from last fs = flat_map (λ e. e.clauses) (all_encoded last fs)

pub record AllSay (u v : ℕ → Bool) (last : ℕ) (fs : List Formula) : Type 0 where
  pub made : Carries v last (all_auxiliaries u fs) → satisfies v (connectives_from last fs) ≡ true
  pub forced : satisfies v (connectives_from last fs) ≡ true → Carries v last (all_auxiliaries u fs)
  pub exact : satisfies v (connectives_from last fs) ≡ true → satisfies v (constraints_from last fs) ≡ list_all (holds u) fs
  pub among : satisfies v (constraints_from last fs) ≡ true → satisfies v (connectives_from last fs) ≡ true

pub all_say : (n : ℕ) (u v : ℕ → Bool) → Agree n u v → (last : ℕ) → n ≤ last → (fs : List Formula) → AllByRecursion (Uses n) fs → AllSay u v last fs
all_say n u v a last le [] w = record { made = λ c. refl; forced = λ s. tt; exact = λ s. refl; among = λ s. refl }
all_say n u v a last le (f ∷ fs) w = go (says n u v a last le f w.0) (all_say n u v a (encoded last f).last (omega (arith, le, grows last f)) fs w.1)
  where
    go : Says u v last f → AllSay u v (encoded last f).last fs → AllSay u v last (f ∷ fs)
    go first rest =
        let e = encoded last f in
        let connectives : satisfies v (e.clauses ++ connectives_from e.last fs) ≡ (satisfies v e.clauses && satisfies v (connectives_from e.last fs)) =
        list_all-append (clause_true v) e.clauses (connectives_from e.last fs) in
        let one : satisfies v (e.clauses ++ (e.literal ∷ []) ∷ []) ≡ (satisfies v e.clauses && ((literal_true v e.literal || false) && true)) =
        list_all-append (clause_true v) e.clauses ((e.literal ∷ []) ∷ []) in
        let constraints : satisfies v (constraint_clauses e ++ constraints_from e.last fs) ≡ (satisfies v (constraint_clauses e) && satisfies v (constraints_from e.last fs)) =
        list_all-append (clause_true v) (constraint_clauses e) (constraints_from e.last fs) in
        let literal : satisfies v e.clauses ≡ true → (satisfies v e.clauses && ((literal_true v e.literal || false) && true)) ≡ holds u f =
        λ s. ap (λ b. b && ((literal_true v e.literal || false) && true)) s ∙ alone (literal_true v e.literal) ∙ first.literal s in
        record {
          made = λ c.
              let p = split c in
              connectives ∙ and_from (satisfies v e.clauses) (satisfies v (connectives_from e.last fs)) (first.made p.0) (rest.made p.1);
          forced = λ s.
              let p = and_parts (satisfies v e.clauses) (satisfies v (connectives_from e.last fs)) (sym connectives ∙ s) in
              carries_both v last (auxiliaries u f) (all_auxiliaries u fs) (first.forced p.0)
              (let at : ℕ → Type 0 = λ k. Carries v k (all_auxiliaries u fs) in subst at (last_is u last f) (rest.forced p.1));
          exact = λ s.
              let p = and_parts (satisfies v e.clauses) (satisfies v (connectives_from e.last fs)) (sym connectives ∙ s) in
              constraints
              ∙ ap (λ b. b && satisfies v (constraints_from e.last fs)) (one ∙ literal p.0)
              ∙ ap (λ b. holds u f && b) (rest.exact p.1);
          among = λ s.
              let p = and_parts (satisfies v (constraint_clauses e)) (satisfies v (constraints_from e.last fs)) (sym constraints ∙ s) in
              let q = and_parts (satisfies v e.clauses) ((literal_true v e.literal || false) && true) (sym one ∙ p.0) in
              connectives ∙ and_from (satisfies v e.clauses) (satisfies v (connectives_from e.last fs)) q.0 (rest.among p.1);
        }
      where
        split : Carries v last (auxiliaries u f ++ all_auxiliaries u fs) → Carries v last (auxiliaries u f) × Carries v (encoded last f).last (all_auxiliaries u fs)
        split c =
            let at : ℕ → Type 0 = λ k. Carries v k (all_auxiliaries u fs) in
            let p = carries_parts v last (auxiliaries u f) (all_auxiliaries u fs) c in (p.0, subst at (sym (last_is u last f)) p.1)

        alone : (b : Bool) → ((b || false) && true) ≡ b
        alone true = refl
        alone false = refl

-- ---- bounds

pub from_grows : (last : ℕ) (fs : List Formula) → last ≤ last_of last fs
from_grows last fs = omega (arith, last_of_is (λ n. true) last fs)

pub constraints_bounded : (last : ℕ) (fs : List Formula) → AllByRecursion (Uses last) fs → AllByRecursion (IsClause (last_of last fs)) (constraints_from last fs)
constraints_bounded last [] w = tt
constraints_bounded last (f ∷ fs) w =
    let e = encoded last f in
    let n : ℕ = last_of e.last fs in
    let le : e.last ≤ n = from_grows e.last fs in
    let own : AllByRecursion (IsClause e.last) (constraint_clauses e) =
    all_both (IsClause e.last) e.clauses ((e.literal ∷ []) ∷ []) (clauses_bounded last f w.0) ((literal_bounded last f w.0, tt), tt) in
    all_both (IsClause n) (constraint_clauses e) (constraints_from e.last fs) (clauses_wider e.last n le (constraint_clauses e) own)
    (constraints_bounded e.last fs (all_wider last e.last (grows last f) fs w.1))
  where
    all_wider : (n m : ℕ) → n ≤ m → (fs : List Formula) → AllByRecursion (Uses n) fs → AllByRecursion (Uses m) fs
    all_wider n m le [] w = tt
    all_wider n m le (f ∷ fs) w = (uses_wider n m le f w.0, all_wider n m le fs w.1)

-- ---- pins

position_below : {N : Type 0} (same : N → N → Bool) (names : List N) (s : N) (k : ℕ) → position (same s) names ≡ Some k → k < length names
position_below same names s k is = (position-Some (same s) names k s is).0

pub pins_say : {N : Type 0} (same : N → N → Bool) (names : List N) (n : ℕ) → length names ≤ n → (g : List Bool) (v : ℕ → Bool) → Agree n (assignment g) v → (pins : List (PinOf N))
    → satisfies v (filter_map (pin_clause same names) pins) ≡ list_all (agrees same names g) pins
pins_say same names n le g v a [] = refl
pins_say same names n le g v a (pin ∷ pins) = go (position (same pin.0) names) refl (pins_say same names n le g v a pins)
  where
    go : (o : Option ℕ) → position (same pin.0) names ≡ o → satisfies v (filter_map (pin_clause same names) pins) ≡ list_all (agrees same names g) pins
        → satisfies v (cons_option (option_map (λ k. signed pin.1 (k + 1) ∷ []) o) (filter_map (pin_clause same names) pins)) ≡ (has_state pin.1 g o && list_all (agrees same names g) pins)
    go None is rest = rest
    go (Some k) is rest =
        let low : k < length names = position_below same names pin.0 k is in
        let state : v (k + 1) ≡ slice_index_or g k false = sym (a (k + 1) (omega arith) (omega (arith, low, le))) ∙ assignment_at g k in
        ap (λ b. b && satisfies v (filter_map (pin_clause same names) pins))
        (or_none (literal_true v (signed pin.1 (k + 1))) ∙ signed_true v pin.1 (k + 1) (omega arith) ∙ ap (same_truth pin.1) state)
        ∙ ap (λ b. same_truth pin.1 (slice_index_or g k false) && b) rest
      where
        or_none : (b : Bool) → (b || false) ≡ b
        or_none true = refl
        or_none false = refl

pub pins_bounded : {N : Type 0} (same : N → N → Bool) (names : List N) (n : ℕ) → length names ≤ n → (pins : List (PinOf N))
    → AllByRecursion (IsClause n) (filter_map (pin_clause same names) pins)
pins_bounded same names n le [] = tt
pins_bounded same names n le (pin ∷ pins) = go (position (same pin.0) names) refl (pins_bounded same names n le pins)
  where
    go : (o : Option ℕ) → position (same pin.0) names ≡ o → AllByRecursion (IsClause n) (filter_map (pin_clause same names) pins)
        → AllByRecursion (IsClause n) (cons_option (option_map (λ k. signed pin.1 (k + 1) ∷ []) o) (filter_map (pin_clause same names) pins))
    go None is rest = rest
    go (Some k) is rest =
        let low : k < length names = position_below same names pin.0 k is in
        ((signed_literal n pin.1 (k + 1) (omega arith) (omega (arith, low, le)), tt), rest)
