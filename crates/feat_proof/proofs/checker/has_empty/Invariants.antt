use Rattle.std.proofs.Common.{ℕ, ◌<◌, ◌≢◌, []}
use Rattle.spec_refutation.specs.Refutation.{step_at}
use Rattle.feat_proof.proofs.checker.has_empty.Given as goal

abbrev pub invariant-loop-step : goal.invariant-loop-step
invariant-loop-step l = (i : ℕ) → i < l.step-index → (step_at l.steps i).0 ≢ []
