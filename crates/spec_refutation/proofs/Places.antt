-- A text is that of one log, or has one place at which it is not as demanded, and not both: what it is read as tells.
use Rattle.std.proofs.Common.{◌≡◌, ℕ, ℤ, List, Result, Ok, Err, sym, ap, ◌∙◌}
use Rattle.spec_refutation.specs.Derivation.{Step}
use Rattle.spec_refutation.specs.Reading.{Reads, IsFault}
use Rattle.spec_refutation.specs.LogReading.{Log}
use Rattle.spec_refutation.proofs.LogReadings.{log_is_read, fault_is_read}

-- a text is that of one log at most
pub one_log : (text : List ℕ) (v w : ℕ) (cs ds : List (List ℤ)) (ss ts : List Step) → Reads text v cs ss
    → Reads text w ds ts → (v ≡ w) × (cs ≡ ds) × (ss ≡ ts)
one_log text v w cs ds ss ts a b =
    let e : ◌≡◌ {A = Result Log ℕ} (Ok (record { vars = v; clauses = cs; steps = ss })) (Ok (record { vars = w; clauses = ds; steps = ts })) = sym (log_is_read text v cs ss a) ∙ log_is_read text w ds ts b in
    let same : ◌≡◌ {A = Log} (record { vars = v; clauses = cs; steps = ss }) (record { vars = w; clauses = ds; steps = ts }) = cc in
    (ap (λ (log : Log). log.vars) same, ap (λ (log : Log). log.clauses) same, ap (λ (log : Log). log.steps) same)

-- a log's text has no fault
pub log_or_fault : (text : List ℕ) (at vars : ℕ) (clauses : List (List ℤ)) (steps : List Step)
    → Reads text vars clauses steps → IsFault text at → ⊥
log_or_fault text at vars clauses steps r f =
    let e : ◌≡◌ {A = Result Log ℕ} (Ok (record { vars = vars; clauses = clauses; steps = steps })) (Err at) = sym (log_is_read text vars clauses steps r) ∙ fault_is_read text at f in cc

-- and any other text one
pub one_place : (text : List ℕ) (a b : ℕ) → IsFault text a → IsFault text b → a ≡ b
one_place text a b f g = let e : ◌≡◌ {A = Result Log ℕ} (Err a) (Err b) = sym (fault_is_read text a f) ∙ fault_is_read text b g in cc
