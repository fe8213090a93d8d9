-- A command, once what it names is opened, as one value.
use Rattle.std.specs.Prelude.{ℕ, List}
use Rattle.spec_run.specs.End.{End}

-- how a run ends, and what went out
pub record Outcome : Type 0 where
  pub end : End
  pub out : List ℕ

-- over the stream: how many of its bytes are taken, the outcome by the whole stream, and what has gone out where the source
-- failed behind these bytes
pub record Over : Type 0 where
  pub limit : ℕ
  pub whole : List ℕ → Outcome
  pub partial : List ℕ → List ℕ

-- a command does not read the stream and has one outcome, or it reads the stream
pub data Work : Type 0 where
  Once : Outcome → Work
  Reads : Over → Work

-- its outcome by the whole stream
abbrev pub outcome_of : Work → List ℕ → Outcome
outcome_of (Once o) bytes = o
outcome_of (Reads over) bytes = over.whole bytes
