-- How a step follows from clauses by its hints: reverse unit propagation with hints, as in the LRAT
-- format (Cruz-Filipe, Heule, Hunt, Kaufmann, Schneider-Kamp, "Efficient Certified RAT Verification",
-- 2017), without resolution asymmetric tautologies and without deletion. Stricter than LRAT checkers: a
-- hint before the last whose clause is already falsified is refused.
use Rattle.std.specs.Prelude.{ℕ, zero, suc, ℤ, neg_ℤ, Bool, false, not, List, [], ◌∷◌, map, Option, Some, None, if◌then◌else◌, slice_get, filter, option_and_then}
use Rattle.std.specs.List.{list_any, list_all}
use Rattle.std.specs.Option.{option_map_or}
use Rattle.std.specs.Ordering.{int_eq}

-- A step: the literals of its clause, and the numbers of the clauses that it hints at.
abbrev pub Step : Type 0
Step = List ℤ × List ℕ

-- whether a set, as a list, has this literal
abbrev pub has : List ℤ → ℤ → Bool
has set l = list_any (int_eq l) set

-- The literals of a clause whose negation is not in the set.
abbrev pub open_literals : List ℤ → List ℤ → List ℤ
open_literals set clause = filter (λ l. not (has set (neg_ℤ l))) clause

-- The literal of a list that has exactly one, where equal literals count once.
abbrev pub the_only : List ℤ → Option ℤ
the_only [] = None
the_only (l ∷ ls) = if list_all (int_eq l) ls then Some l else None

-- The set has the negation of each literal of the clause.
abbrev pub falsified : List ℤ → List ℤ → Bool
falsified set clause = list_all (λ l. has set (neg_ℤ l)) clause

-- The clause of this number, counted from 1. Where the clauses are all those before a step, each number
-- from 1 on and below the step's own is that of one of them, and no other number is.
abbrev pub clause_numbered : List (List ℤ) → ℕ → Option (List ℤ)
clause_numbered known zero = None
clause_numbered known (suc k) = slice_get known k

-- The one literal whose negation is not in the set, of the clause of this number.
abbrev pub the_open : List (List ℤ) → List ℤ → ℕ → Option ℤ
the_open known set h = option_and_then (λ c. the_only (open_literals set c)) (clause_numbered known h)

-- The hints are taken in turn. Each but the last names a clause with exactly one literal whose negation
-- is not in the set, and this literal joins the set. The last names a clause that the set falsifies.
-- There is at least one.
abbrev pub leads : List (List ℤ) → List ℤ → List ℕ → Bool
leads known set [] = false
leads known set (h ∷ []) = option_map_or (falsified set) (clause_numbered known h) false
leads known set (h ∷ g ∷ hs) = option_map_or (λ l. leads known (l ∷ set) (g ∷ hs)) (the_open known set h) false

-- A step follows from the clauses before it where its hints lead from the negations of its literals to
-- a falsified clause.
abbrev pub derives : List (List ℤ) → Step → Bool
derives known step = leads known (map neg_ℤ step.0) step.1
