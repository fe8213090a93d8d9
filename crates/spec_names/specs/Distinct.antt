-- Things, each once.
use Rattle.std.specs.Prelude.{ℕ, Bool, not, List, [], ◌∷◌, filter, bytes_eq}

-- things, each once, in the order in which they come first: the first, and behind it those others that differ from it
abbrev pub distinct_by : {X : Type 0} → (X → X → Bool) → List X → List X
distinct_by same [] = []
distinct_by same (x ∷ xs) = x ∷ filter (λ y. not (same y x)) (distinct_by same xs)

abbrev pub distinct : List (List ℕ) → List (List ℕ)
distinct texts = distinct_by bytes_eq texts
