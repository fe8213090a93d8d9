-- The line of a log that was checked.
use Rattle.std.specs.Prelude.{ℕ, List, [], ◌∷◌, ◌++◌, codes, decimal}

-- it refutes its clauses, in so many steps
abbrev pub refuted_line : ℕ → List ℕ
refuted_line steps = codes "refuted " ++ (decimal steps ++ 10 ∷ [])

-- it fails at this step, from 0, or at the number of steps
abbrev pub fails_line : ℕ → List ℕ
fails_line step = codes "fails " ++ (decimal step ++ 10 ∷ [])
