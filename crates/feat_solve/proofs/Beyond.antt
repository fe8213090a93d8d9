-- The variables beyond those of the clauses: no clause speaks of them, so they are on in the first list.
use Rattle.std.proofs.Common.{◌≡◌, ℕ, zero, suc, ◌+◌, ◌-◌, ◌<◌, ◌≤◌, ℤ, pos, negsuc, nat_abs, Bool, true, false, not, ◌||◌, ◌&&◌, ◌⊎◌, inl, inr, List, [], ◌∷◌, ◌++◌, max, take, replicate, length, refl, sym, ap, ◌∙◌, subst, ⊎_elim, append_assoc, arith}
use Rattle.std.specs.Prelude.{slice_index_or}
use Rattle.std.specs.List.{AllByRecursion}
use Rattle.std.proofs.lemmas.Bool.{both_ways}
use Rattle.std.proofs.lemmas.List.{length-append, length-replicate, length-take, get_or-take, get_or-replicate, get_or_append_left, replicate_more}
use Rattle.std.proofs.Math.Seq.{get_or-append_right}
use Rattle.std.proofs.Math.Nat.{le-max_left, le-max_right}
use Rattle.spec_refutation.specs.Literals.{literal_true, clause_true, satisfies}
use Rattle.spec_refutation.specs.Derivation.{Step}
use Rattle.spec_refutation.specs.Reading.{IsLiteral, IsClause}
use Rattle.spec_refutation.specs.First.{assignment, Before, IsFirst, IsRefutation}
use Rattle.spec_refutation.proofs.Agreement.{clause_wider, clauses_wider, Agree, satisfies_same}
use Rattle.feat_solve.specs.Reach.{reach_of, reach}

-- a wider bound holds too
steps_wider : (n vars : ℕ) → n ≤ vars → (ss : List Step) → AllByRecursion (λ (s : Step). IsClause n s.0) ss
    → AllByRecursion (λ (s : Step). IsClause vars s.0) ss
steps_wider n vars le [] i = tt
steps_wider n vars le (s ∷ ss) i = (clause_wider n vars le s.0 i.0, steps_wider n vars le ss i.1)

pub refutation_wider : (n vars : ℕ) → n ≤ vars → (clauses : List (List ℤ)) (steps : List Step)
    → IsRefutation n clauses steps → IsRefutation vars clauses steps
refutation_wider n vars le clauses steps r =
    record { refutes = r.refutes; within = steps_wider n vars le steps r.within; few = r.few }

-- clauses are within their reach, and it is the least such bound
clause_reached : (vars : ℕ) (c : List ℤ) → IsClause vars c → IsClause (reach_of c) c
clause_reached vars [] i = tt
clause_reached vars (l ∷ c) i = (
  record { some = i.0.some; within = le-max_left (nat_abs l) (reach_of c) },
  clause_wider (reach_of c) (max (nat_abs l) (reach_of c)) (le-max_right (nat_abs l) (reach_of c)) c (clause_reached vars c i.1),
)

pub clauses_reached : (vars : ℕ) (cs : List (List ℤ)) → AllByRecursion (IsClause vars) cs → AllByRecursion (IsClause (reach cs)) cs
clauses_reached vars [] i = tt
clauses_reached vars (c ∷ cs) i = (
  clause_wider (reach_of c) (max (reach_of c) (reach cs)) (le-max_left (reach_of c) (reach cs)) c (clause_reached vars c i.0),
  clauses_wider (reach cs) (max (reach_of c) (reach cs)) (le-max_right (reach_of c) (reach cs)) cs (clauses_reached vars cs i.1),
)

clause_reach : (vars : ℕ) (c : List ℤ) → IsClause vars c → reach_of c ≤ vars
clause_reach vars [] i = omega arith
clause_reach vars (l ∷ c) i = omega (arith, i.0.within, clause_reach vars c i.1)

pub reach_within : (vars : ℕ) (cs : List (List ℤ)) → AllByRecursion (IsClause vars) cs → reach cs ≤ vars
reach_within vars [] i = omega arith
reach_within vars (c ∷ cs) i = omega (arith, clause_reach vars c i.0, reach_within vars cs i.1)

-- the first list over the variables of the clauses, with all others on, is the first over all
pub first_beyond : (n vars : ℕ) → n ≤ vars → (clauses : List (List ℤ)) → AllByRecursion (IsClause n) clauses
    → (states : List Bool) → IsFirst n clauses states → IsFirst vars clauses (states ++ replicate (vars - n) true)
first_beyond n vars le clauses within states f = record {
  whole = omega (arith, length-append states (replicate (vars - n) true), length-replicate (vars - n) true, f.whole, le);
  good = sym (satisfies_same n (assignment states) (assignment (states ++ replicate (vars - n) true)) (shown states (λ k lt. sym (front k lt))) clauses within) ∙ f.good;
  first = λ others len s b. ⊎_elim (λ low. early others len s b low) (λ high. late others b high) (sides b.at n);
}
  where
    front : (k : ℕ) → k < n → slice_index_or (states ++ replicate (vars - n) true) k false ≡ slice_index_or states k false
    front k lt = get_or_append_left states (replicate (vars - n) true) false k (omega (arith, f.whole, lt))

    shown : (xs : List Bool) → ((k : ℕ) → k < n → slice_index_or xs k false ≡ slice_index_or (states ++ replicate (vars - n) true) k false)
        → Agree n (assignment xs) (assignment (states ++ replicate (vars - n) true))
    shown xs same zero some low = absurd (omega (arith, some))
    shown xs same (suc k) some low = same k (omega (arith, low))

    sides : (a b : ℕ) → (a < b) ⊎ (b ≤ a)
    sides a zero = inr (omega arith)
    sides zero (suc b) = inl (omega arith)
    sides (suc a) (suc b) = ⊎_elim (λ l. inl (omega (arith, l))) (λ l. inr (omega (arith, l))) (sides a b)

    late : (others : List Bool) (b : Before others (states ++ replicate (vars - n) true)) → n ≤ b.at → ⊥
    late others b high =
        let len : length (states ++ replicate (vars - n) true) ≡ vars =
        omega (arith, length-append states (replicate (vars - n) true), length-replicate (vars - n) true, f.whole, le) in
        let lt : b.at - length states < vars - n = omega (arith, b.within, len, f.whole, high) in
        both_ways (slice_index_or (states ++ replicate (vars - n) true) b.at false) b.off
        (get_or-append_right states (replicate (vars - n) true) b.at false (omega (arith, f.whole, high))
        ∙ get_or-replicate (vars - n) (b.at - length states) true false lt)

    early : (others : List Bool) → length others ≡ vars → satisfies (assignment others) clauses ≡ true
        → (b : Before others (states ++ replicate (vars - n) true)) → b.at < n → ⊥
    early others len s b low =
        let cut : (k : ℕ) → k < n → slice_index_or (take n others) k false ≡ slice_index_or others k false =
        λ k lt. get_or-take n others k false lt in
        f.first (take n others) (omega (arith, length-take n others, len, le))
        (satisfies_same n (assignment (take n others)) (assignment others) (cut_agrees others cut) clauses within ∙ s)
        (record {
          at = b.at;
          within = omega (arith, f.whole, low);
          agree = λ k lt. cut k (omega (arith, lt, low)) ∙ b.agree k lt ∙ front k (omega (arith, lt, low));
          on = cut b.at low ∙ b.on;
          off = sym (front b.at low) ∙ b.off;
        })
      where
        cut_agrees : (others : List Bool) → ((k : ℕ) → k < n → slice_index_or (take n others) k false ≡ slice_index_or others k false)
            → Agree n (assignment (take n others)) (assignment others)
        cut_agrees others cut zero some low = absurd (omega (arith, some))
        cut_agrees others cut (suc k) some low = cut k (omega (arith, low))

-- one more variable that is on
pub one_more : (states : List Bool) (k : ℕ) → length states ≤ k
    → (states ++ replicate (k - length states) true) ++ (true ∷ []) ≡ states ++ replicate (k + 1 - length states) true
one_more states k le =
    let e : k - length states + 1 ≡ k + 1 - length states = omega (arith, le) in
    append_assoc states (replicate (k - length states) true) (true ∷ [])
    ∙ ap (λ t. states ++ t) (replicate_more (k - length states) true ∙ ap (λ n. replicate n true) e)

-- of a number that is the reach
pub reached_clauses : (n vars : ℕ) (cs : List (List ℤ)) → n ≡ reach cs → AllByRecursion (IsClause vars) cs
    → AllByRecursion (IsClause n) cs
reached_clauses n vars cs e i = let P : ℕ → Type 0 = λ k. AllByRecursion (IsClause k) cs in subst P (sym e) (clauses_reached vars cs i)

pub reached_within : (n vars : ℕ) (cs : List (List ℤ)) → n ≡ reach cs → AllByRecursion (IsClause vars) cs → n ≤ vars
reached_within n vars cs e i = omega (arith, e, reach_within vars cs i)

pub reached_first : (n vars : ℕ) (cs : List (List ℤ)) → n ≡ reach cs → AllByRecursion (IsClause vars) cs
    → (states all : List Bool) → IsFirst n cs states → all ≡ states ++ replicate (vars - length states) true → IsFirst vars cs all
reached_first n vars cs e i states all f same =
    let P : List Bool → Type 0 = λ xs. IsFirst vars cs xs in
    subst P (sym (same ∙ ap (λ k. states ++ replicate (vars - k) true) f.whole))
    (first_beyond n vars (reached_within n vars cs e i) cs (reached_clauses n vars cs e i) states f)

pub reached_refutes : (n vars : ℕ) (cs : List (List ℤ)) → n ≡ reach cs → AllByRecursion (IsClause vars) cs
    → (steps : List Step) → IsRefutation n cs steps → IsRefutation vars cs steps
reached_refutes n vars cs e i steps r = refutation_wider n vars (reached_within n vars cs e i) cs steps r
