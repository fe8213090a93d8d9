-- The text of a log: one line each, ended by a line feed, with single spaces, numbers in decimal
-- without leading zeros, and `-` before a negative literal.
use Rattle.std.specs.Prelude.{ℕ, ℤ, Bool, false, List, [], ◌∷◌, ◌++◌, length, flat_map, codes, decimal}
use Rattle.std.specs.Char.{is_ascii_digit}
use Rattle.std.specs.Fmt.{signed_decimal}
use Rattle.spec_refutation.specs.Derivation.{Step}

-- a space and a literal for each literal
abbrev pub spaced_literals : List ℤ → List ℕ
spaced_literals ls = flat_map (λ l. 32 ∷ signed_decimal l) ls

-- a space and a number for each number
abbrev pub spaced_numbers : List ℕ → List ℕ
spaced_numbers ns = flat_map (λ n. 32 ∷ decimal n) ns

-- `p V C S`: the number of variables, of clauses and of steps
abbrev pub first_line : ℕ → ℕ → ℕ → List ℕ
first_line vars clauses steps =
    codes "p" ++ (spaced_numbers (vars ∷ clauses ∷ steps ∷ []) ++ codes "\n")

-- `c`, and the literals
abbrev pub clause_line : List ℤ → List ℕ
clause_line clause = codes "c" ++ (spaced_literals clause ++ codes "\n")

-- `s`, the literals, ` :`, and the hints
abbrev pub step_line : Step → List ℕ
step_line step =
    codes "s" ++ (spaced_literals step.0 ++ (codes " :" ++ (spaced_numbers step.1 ++ codes "\n")))

-- The first line, a line for each clause, and a line for each step.
abbrev pub log_text : ℕ → List (List ℤ) → List Step → List ℕ
log_text vars clauses steps =
    first_line vars (length clauses) (length steps)
    ++ (flat_map clause_line clauses ++ flat_map step_line steps)

-- Whether these bytes begin with a digit, so that a number which stands before them goes on in them.
abbrev pub begins_with_digit : List ℕ → Bool
begins_with_digit [] = false
begins_with_digit (b ∷ bs) = is_ascii_digit b
