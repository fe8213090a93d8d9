-- What `read_log` answers, unless memory runs out.
use Rattle.std.specs.Prelude.{◌≡◌, ℕ, ℤ, List, Result, Ok, Err, ⊤}
use Rattle.spec_refutation.specs.Derivation.{Step}
use Rattle.feat_proof.specs.declared.faults.LogFault.{LogFault}
use Rattle.feat_proof.specs.declared.faults.LogFault.TheVariants.{Syntax, NoMemory}

-- a number of variables with clauses, and a log
abbrev pub Read : Type 0
Read = (ℕ × List (List ℤ)) × List Step

-- The answer is these clauses and this log.
abbrev pub ReadsAs : Result Read LogFault → ℕ → List (List ℤ) → List Step → Type 0
ReadsAs (Ok r) vars clauses steps = (r.0.0 ≡ vars) × (r.0.1 ≡ clauses) × (r.1 ≡ steps)
ReadsAs (Err e) vars clauses steps = e ≡ NoMemory

-- The answer is the fault at this place.
abbrev pub RefusedAt : Result Read LogFault → ℕ → Type 0
RefusedAt (Ok r) at = ⊥
RefusedAt (Err (Syntax k)) at = k ≡ at
RefusedAt (Err NoMemory) at = ⊤
