-- The answer is a refutation exactly where nothing satisfies.
use Rattle.std.proofs.Common.{◌≢◌, ℕ, ℤ, Bool, true, List, ◌↔◌}
use Rattle.spec_refutation.specs.Literals.{satisfies}
use Rattle.spec_refutation.proofs.Sound.{refutes_sound}
use Rattle.spec_refutation.specs.First.{assignment}
use Rattle.feat_solve.specs.Answers.{Solves, IsRefuted}
use Rattle.feat_solve.specs.declared.answers.Answer.{Answer}
use Rattle.feat_solve.specs.declared.answers.Answer.TheVariants.{Model, Refuted}

pub exactly : (vars : ℕ) (clauses : List (List ℤ)) (a : Answer) → Solves vars clauses a
    → IsRefuted a ↔ ((v : ℕ → Bool) → satisfies v clauses ≢ true)
exactly vars clauses (Model states) s = ((λ h. absurd h), (λ h. h (assignment states.items) s.good))
exactly vars clauses (Refuted log) s = ((λ h. refutes_sound clauses log s.refutes), (λ h. tt))
