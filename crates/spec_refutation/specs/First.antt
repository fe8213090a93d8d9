-- What answers the question whether clauses can be satisfied: the first list of states that satisfies
-- them, or a log that refutes them.
use Rattle.std.specs.Prelude.{◌≡◌, ℕ, zero, suc, ◌+◌, ◌<◌, ◌≤◌, ℤ, Bool, true, false, List, length, slice_index_or}
use Rattle.std.specs.List.{AllByRecursion}
use Rattle.spec_refutation.specs.Literals.{satisfies}
use Rattle.spec_refutation.specs.Derivation.{Step}
use Rattle.spec_refutation.specs.Refutation.{Refutes}
use Rattle.spec_refutation.specs.Reading.{IsClause}

-- The assignment that a list of states gives: variable 1 has the first of them. A variable past the end
-- is off.
abbrev pub assignment : List Bool → ℕ → Bool
assignment states zero = false
assignment states (suc k) = slice_index_or states k false

-- One list stands before another where it is on, and the other off, at the first place at which they
-- differ.
pub record Before (one other : List Bool) : Type 0 where
  pub at : ℕ
  pub within : at < length other
  pub agree : (k : ℕ) → k < at → slice_index_or one k false ≡ slice_index_or other k false
  pub on : slice_index_or one at false ≡ true
  pub off : slice_index_or other at false ≡ false

-- A list with one state for each variable satisfies the clauses, and no list that does stands before it.
pub record IsFirst (vars : ℕ) (clauses : List (List ℤ)) (states : List Bool) : Type 0 where
  pub whole : length states ≡ vars
  pub good : satisfies (assignment states) clauses ≡ true
  pub first : (others : List Bool) → length others ≡ vars → satisfies (assignment others) clauses ≡ true
      → Before others states → ⊥

-- A log that refutes the clauses, with literals of these variables alone, and within the bound on clauses
-- and steps.
pub record IsRefutation (vars : ℕ) (clauses : List (List ℤ)) (steps : List Step) : Type 0 where
  pub refutes : Refutes clauses steps
  pub within : AllByRecursion (λ (s : Step). IsClause vars s.0) steps
  pub few : length clauses + length steps ≤ 18446744073709551615
