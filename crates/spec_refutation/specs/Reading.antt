-- Which texts are those of a log, and where any other text first is not as demanded.
use Rattle.std.specs.Prelude.{◌≡◌, ◌≢◌, ℕ, ◌+◌, ◌<◌, ◌≤◌, ℤ, nat_abs, List, [], ◌++◌, length, flat_map, ◌⊎◌}
use Rattle.std.specs.List.{AllByRecursion}
use Rattle.spec_refutation.specs.Derivation.{Step}
use Rattle.spec_refutation.specs.Text.{first_line, clause_line, step_line, log_text}

-- There are at most 2,147,483,647 variables. Clauses and steps are together at most
-- 18,446,744,073,709,551,615.
pub record AreCounts (vars clauses steps : ℕ) : Type 0 where
  pub few_vars : vars ≤ 2147483647
  pub few_lines : clauses + steps ≤ 18446744073709551615

-- A literal is not 0, and at most the number of variables in size.
pub record IsLiteral (vars : ℕ) (l : ℤ) : Type 0 where
  pub some : 0 < nat_abs l
  pub within : nat_abs l ≤ vars

-- A hint is from 1 to the number of clauses and steps together.
pub record IsHint (lines h : ℕ) : Type 0 where
  pub some : 0 < h
  pub within : h ≤ lines

abbrev pub IsClause : ℕ → List ℤ → Type 0
IsClause vars clause = AllByRecursion (IsLiteral vars) clause

pub record IsStep (vars lines : ℕ) (step : Step) : Type 0 where
  pub clause : IsClause vars step.0
  pub hints : AllByRecursion (IsHint lines) step.1

-- A log within the bounds of the format.
pub record IsLog (vars : ℕ) (clauses : List (List ℤ)) (steps : List Step) : Type 0 where
  pub counts : AreCounts vars (length clauses) (length steps)
  pub each_clause : AllByRecursion (IsClause vars) clauses
  pub each_step : AllByRecursion (IsStep vars (length clauses + length steps)) steps

-- The texts of the format are those of the logs within its bounds.
pub record Reads (text : List ℕ) (vars : ℕ) (clauses : List (List ℤ)) (steps : List Step) : Type 0 where
  pub bounds : IsLog vars clauses steps
  pub printed : text ≡ log_text vars clauses steps

-- The text does not begin with a first line; with a clause's line; with a step's line.
abbrev pub NoFirstLine : List ℕ → Type 0
NoFirstLine text = (vars clauses steps : ℕ) (rest : List ℕ) → AreCounts vars clauses steps
    → text ≢ first_line vars clauses steps ++ rest

abbrev pub NoClauseLine : ℕ → List ℕ → Type 0
NoClauseLine vars text = (clause : List ℤ) (rest : List ℕ) → IsClause vars clause
    → text ≢ clause_line clause ++ rest

abbrev pub NoStepLine : ℕ → ℕ → List ℕ → Type 0
NoStepLine vars lines text = (step : Step) (rest : List ℕ) → IsStep vars lines step
    → text ≢ step_line step ++ rest

-- The rest of a text, after the first line with its counts and the lines of these clauses and steps, is
-- not as demanded: a clause's line is due and does not begin it, or a step's line is due and does not,
-- or no line is due any more and it is not empty.
pub data Stops (vars clause_count step_count : ℕ) (clauses : List (List ℤ)) (steps : List Step) (rest : List ℕ) : Type 0 where
  at_clause : length clauses < clause_count → steps ≡ [] → NoClauseLine vars rest
      → Stops vars clause_count step_count clauses steps rest
  at_step : length clauses ≡ clause_count → length steps < step_count → NoStepLine vars (clause_count + step_count) rest
      → Stops vars clause_count step_count clauses steps rest
  at_end : length clauses ≡ clause_count → length steps ≡ step_count → rest ≢ []
      → Stops vars clause_count step_count clauses steps rest

-- The first line and the lines of some clauses and steps are as demanded up to this place, and the rest
-- is not. So the place is that of the first byte of the first line that is not as demanded, the text's
-- length where a line is missing, or the first byte after the last line.
pub record StopsAt (text : List ℕ) (at : ℕ) : Type 0 where
  pub vars : ℕ
  pub clause_count : ℕ
  pub step_count : ℕ
  pub counts : AreCounts vars clause_count step_count
  pub clauses : List (List ℤ)
  pub steps : List Step
  pub each_clause : AllByRecursion (IsClause vars) clauses
  pub each_step : AllByRecursion (IsStep vars (clause_count + step_count)) steps
  pub front : List ℕ
  pub front_is : front ≡ first_line vars clause_count step_count
      ++ (flat_map clause_line clauses ++ flat_map step_line steps)
  pub rest : List ℕ
  pub text_is : text ≡ front ++ rest
  pub place : at ≡ length front
  pub stops : Stops vars clause_count step_count clauses steps rest

-- The first line is not as demanded, or a later place is not.
abbrev pub IsFault : List ℕ → ℕ → Type 0
IsFault text at = ((at ≡ 0) × NoFirstLine text) ⊎ StopsAt text at

-- The log whose text this is.
pub record LogIn (text : List ℕ) : Type 0 where
  pub vars : ℕ
  pub clauses : List (List ℤ)
  pub steps : List Step
  pub reads : Reads text vars clauses steps

-- The place at which a text is not as demanded.
pub record FaultIn (text : List ℕ) : Type 0 where
  pub at : ℕ
  pub is : IsFault text at
