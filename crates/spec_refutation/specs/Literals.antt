-- Clauses over boolean variables, as in the DIMACS format for satisfiability solvers: variables are
-- numbered from 1, a literal is a whole number other than 0, and a clause is the list of its literals.
-- The negation of a literal is its negative.
use Rattle.std.specs.Prelude.{ℕ, zero, suc, ℤ, pos, negsuc, Bool, false, not, List}
use Rattle.std.specs.List.{list_any, list_all}

-- Under an assignment the literal n is true where variable n is, and -n where it is not. 0 is no
-- literal, and nowhere true.
abbrev pub literal_true : (ℕ → Bool) → ℤ → Bool
literal_true v (pos zero) = false
literal_true v (pos (suc n)) = v (suc n)
literal_true v (negsuc n) = not (v (suc n))

-- A clause is true where one of its literals is.
abbrev pub clause_true : (ℕ → Bool) → List ℤ → Bool
clause_true v clause = list_any (literal_true v) clause

-- An assignment satisfies clauses where each of them is true.
abbrev pub satisfies : (ℕ → Bool) → List (List ℤ) → Bool
satisfies v clauses = list_all (clause_true v) clauses
