-- The line of a verdict is that of the log.
use Rattle.std.proofs.Common.{◌≡◌, ℕ, length, Result, Ok, Err, refl, sym}
use Rattle.std.specs.Prelude.{◌↔◌, IfOk}
use Rattle.spec_refutation.specs.Refutation.{Refutes, Fails}
use Rattle.feat_proof.specs.declared.faults.NoMemory.{NoMemory}
use Rattle.feat_proof.specs.declared.verdicts.Verdict.{Verdict}
use Rattle.feat_proof.specs.declared.verdicts.Verdict.TheVariants as verdict
use Rattle.spec_run.specs.Logs.{Checked, log_line}
use Rattle.spec_run.proofs.Logs.{refuted_is_told, failure_is_told}
use Rattle.release_opening.specs.Verdict.{line_by}

module _ (log : Checked) where
  verdict_told : (v : Verdict) → (v ≡ verdict.Refuted) ↔ Refutes log.clauses log.steps → ((n : ℕ) → (v ≡ verdict.Fails n) ↔ Fails log.clauses log.steps n) → line_by v (length log.steps) ≡ log_line log
  verdict_told verdict.Refuted refutes fails = sym (refuted_is_told log (refutes.0 refl))
  verdict_told (verdict.Fails n) refutes fails = sym (failure_is_told log n ((fails n).0 refl))

  pub answer_told : (answer : Result Verdict NoMemory) → IfOk answer (λ v. (v ≡ verdict.Refuted) ↔ Refutes log.clauses log.steps)
      → IfOk answer (λ v. (n : ℕ) → (v ≡ verdict.Fails n) ↔ Fails log.clauses log.steps n) → IfOk answer (λ v. line_by v (length log.steps) ≡ log_line log)
  answer_told (Ok v) refutes fails = verdict_told v refutes fails
  answer_told (Err e) refutes fails = tt
