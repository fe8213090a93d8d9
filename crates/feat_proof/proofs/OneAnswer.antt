-- What is read, or where the reading stopped, is the only answer that a text has.
use Rattle.std.proofs.Common.{◌≡◌, ℕ, ℤ, List, Result, Ok, Err, refl}
use Rattle.std.specs.Prelude.{IfOk, IfErr}
use Rattle.spec_refutation.specs.Derivation.{Step}
use Rattle.spec_refutation.specs.Reading.{Reads, IsFault}
use Rattle.spec_refutation.proofs.Places.{one_log, log_or_fault, one_place}
use Rattle.feat_proof.specs.declared.faults.LogFault.{LogFault}
use Rattle.feat_proof.specs.declared.faults.LogFault.TheVariants.{Syntax, NoMemory}
use Rattle.feat_proof.specs.Answers.{ReadsAs, RefusedAt}

pub each_log : (text : List ℕ) (result : Result ((ℕ × List (List ℤ)) × List Step) LogFault)
    → IfOk result (λ r. Reads text r.0.0 r.0.1 r.1)
    → IfErr result (λ e. (at : ℕ) → e ≡ Syntax at → IsFault text at)
    → (vars : ℕ) (clauses : List (List ℤ)) (steps : List Step) → Reads text vars clauses steps → ReadsAs result vars clauses steps
each_log text (Ok r) h f vars clauses steps reads = one_log text r.0.0 vars r.0.1 clauses r.1 steps h reads
each_log text (Err (Syntax k)) h f vars clauses steps reads = absurd (log_or_fault text k vars clauses steps reads (f k refl))
each_log text (Err NoMemory) h f vars clauses steps reads = refl

pub each_fault : (text : List ℕ) (result : Result ((ℕ × List (List ℤ)) × List Step) LogFault)
    → IfOk result (λ r. Reads text r.0.0 r.0.1 r.1)
    → IfErr result (λ e. (at : ℕ) → e ≡ Syntax at → IsFault text at)
    → (at : ℕ) → IsFault text at → RefusedAt result at
each_fault text (Ok r) h f at fault = log_or_fault text at r.0.0 r.0.1 r.1 h fault
each_fault text (Err (Syntax k)) h f at fault = one_place text k at (f k refl) fault
each_fault text (Err NoMemory) h f at fault = tt
