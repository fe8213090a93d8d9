-- What stands at the front of a text, and what does not.
use Rattle.std.specs.Prelude.{◌≡◌, ◌≢◌, ℕ, ℤ, ◌+◌, ◌<◌, ◌≤◌, false, List, [], ◌∷◌, ◌++◌, length, decimal, flat_map}
use Rattle.std.specs.List.{AllByRecursion}
use Rattle.std.specs.Fmt.{signed_decimal}
use Rattle.spec_refutation.specs.Derivation.{Step}
use Rattle.spec_refutation.specs.Text.{begins_with_digit, spaced_literals, spaced_numbers, clause_line, step_line}
use Rattle.spec_refutation.specs.Reading.{IsLiteral, IsClause, IsHint, IsStep, NoClauseLine, NoStepLine}

-- The text is the front and then the rest, which begins with no digit: a number at the end of the front
-- ends there.
abbrev pub Begins : List ℕ → List ℕ → List ℕ → Type 0
Begins text front rest = (text ≡ front ++ rest) × (begins_with_digit rest ≡ false)

-- No number from least to most is the front of the text.
abbrev pub NoNumber : ℕ → ℕ → List ℕ → Type 0
NoNumber least most text = (n : ℕ) (rest : List ℕ) → least ≤ n → n ≤ most
    → begins_with_digit rest ≡ false → text ≢ decimal n ++ rest

-- A space and such a number are not.
abbrev pub NoSpacedNumber : ℕ → ℕ → List ℕ → Type 0
NoSpacedNumber least most text = (n : ℕ) (rest : List ℕ) → least ≤ n → n ≤ most
    → begins_with_digit rest ≡ false → text ≢ (32 ∷ decimal n) ++ rest

-- A literal is not.
abbrev pub NoLiteral : ℕ → List ℕ → Type 0
NoLiteral vars text = (l : ℤ) (rest : List ℕ) → IsLiteral vars l
    → begins_with_digit rest ≡ false → text ≢ signed_decimal l ++ rest

-- A space and a literal are not.
abbrev pub NoSpacedLiteral : ℕ → List ℕ → Type 0
NoSpacedLiteral vars text = (l : ℤ) (rest : List ℕ) → IsLiteral vars l
    → begins_with_digit rest ≡ false → text ≢ (32 ∷ signed_decimal l) ++ rest

-- A space and a hint are not.
abbrev pub NoSpacedHint : ℕ → List ℕ → Type 0
NoSpacedHint lines text = (h : ℕ) (rest : List ℕ) → IsHint lines h
    → begins_with_digit rest ≡ false → text ≢ (32 ∷ decimal h) ++ rest

-- The literals at the front of a text, each after a space, and what follows the last.
pub record LiteralsEnd (vars : ℕ) (text : List ℕ) (literals : List ℤ) (rest : List ℕ) : Type 0 where
  pub good : IsClause vars literals
  pub read : text ≡ spaced_literals literals ++ rest
  pub stop : 0 < length literals → begins_with_digit rest ≡ false
  pub none : NoSpacedLiteral vars rest

-- The hints at the front of a text, each after a space, and what follows the last.
pub record HintsEnd (lines : ℕ) (text : List ℕ) (hints : List ℕ) (rest : List ℕ) : Type 0 where
  pub good : AllByRecursion (IsHint lines) hints
  pub read : text ≡ spaced_numbers hints ++ rest
  pub stop : 0 < length hints → begins_with_digit rest ≡ false
  pub none : NoSpacedHint lines rest

-- The clauses whose lines stand at the front of a text, at most so many, and what follows them.
pub record ClausesEnd (vars count : ℕ) (text : List ℕ) (clauses : List (List ℤ)) (rest : List ℕ) : Type 0 where
  pub good : AllByRecursion (IsClause vars) clauses
  pub read : text ≡ flat_map clause_line clauses ++ rest
  pub few : length clauses ≤ count
  pub next : length clauses < count → NoClauseLine vars rest

-- The steps whose lines do.
pub record StepsEnd (vars lines count : ℕ) (text : List ℕ) (steps : List Step) (rest : List ℕ) : Type 0 where
  pub good : AllByRecursion (IsStep vars lines) steps
  pub read : text ≡ flat_map step_line steps ++ rest
  pub few : length steps ≤ count
  pub next : length steps < count → NoStepLine vars lines rest

-- The clauses and the steps behind a first line, at most as many as it counts, and what follows them. No
-- line that is due begins it.
pub record LinesEnd (vars clause_count step_count : ℕ) (text : List ℕ) (clauses : List (List ℤ)) (steps : List Step) (rest : List ℕ) : Type 0 where
  pub each_clause : AllByRecursion (IsClause vars) clauses
  pub each_step : AllByRecursion (IsStep vars (clause_count + step_count)) steps
  pub read : text ≡ flat_map clause_line clauses ++ (flat_map step_line steps ++ rest)
  pub few_clauses : length clauses ≤ clause_count
  pub few_steps : length steps ≤ step_count
  pub due_clause : length clauses < clause_count → (steps ≡ []) × NoClauseLine vars rest
  pub due_step : length clauses ≡ clause_count → length steps < step_count
      → NoStepLine vars (clause_count + step_count) rest
