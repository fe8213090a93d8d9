-- What the solver answers.
use Rattle.std.specs.Prelude.{ℕ, ℤ, List, ⊤}
use Rattle.spec_refutation.specs.First.{IsFirst, IsRefutation}
use Rattle.feat_solve.specs.declared.answers.Answer.{Answer}
use Rattle.feat_solve.specs.declared.answers.Answer.TheVariants.{Model, Refuted}

-- A model is the first list of states that satisfies the clauses, and a log refutes them.
abbrev pub Solves : ℕ → List (List ℤ) → Answer → Type 0
Solves vars clauses (Model states) = IsFirst vars clauses states.items
Solves vars clauses (Refuted log) = IsRefutation vars clauses log

abbrev pub IsRefuted : Answer → Type 0
IsRefuted (Model states) = ⊥
IsRefuted (Refuted log) = ⊤
