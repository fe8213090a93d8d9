-- A refutation is within the bounds of the text of a log.
use Rattle.std.proofs.Common.{ℕ, ◌+◌, ◌≤◌, ℤ, List, [], ◌∷◌, length}
use Rattle.std.specs.List.{AllByRecursion}
use Rattle.spec_refutation.specs.Derivation.{Step}
use Rattle.spec_refutation.specs.Reading.{IsClause, IsHint, IsStep, IsLog}
use Rattle.spec_refutation.specs.First.{IsRefutation}
use Rattle.spec_refutation.proofs.Hinted.{refutes_within}

steps_within : (vars lines : ℕ) (steps : List Step) → AllByRecursion (λ (s : Step). IsClause vars s.0) steps
    → AllByRecursion (λ (s : Step). AllByRecursion (IsHint lines) s.1) steps → AllByRecursion (IsStep vars lines) steps
steps_within vars lines [] c h = tt
steps_within vars lines (s ∷ steps) c h = (record { clause = c.0; hints = h.0 }, steps_within vars lines steps c.1 h.1)

pub refutation_printed : (vars : ℕ) (clauses : List (List ℤ)) (steps : List Step) → vars ≤ 2147483647
    → AllByRecursion (IsClause vars) clauses → IsRefutation vars clauses steps → IsLog vars clauses steps
refutation_printed vars clauses steps few within r = record {
  counts = record { few_vars = few; few_lines = r.few };
  each_clause = within;
  each_step = steps_within vars (length clauses + length steps) steps r.within (refutes_within clauses steps r.refutes);
}
