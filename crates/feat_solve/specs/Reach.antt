-- The greatest variable of clauses.
use Rattle.std.specs.Prelude.{ℕ, ℤ, nat_abs, List, [], ◌∷◌, max}

-- of one clause, 0 where it is empty
abbrev pub reach_of : List ℤ → ℕ
reach_of [] = 0
reach_of (l ∷ clause) = max (nat_abs l) (reach_of clause)

abbrev pub reach : List (List ℤ) → ℕ
reach [] = 0
reach (clause ∷ clauses) = max (reach_of clause) (reach clauses)
