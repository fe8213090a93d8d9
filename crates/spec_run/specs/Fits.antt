-- What the laws on runs ask of a command's work.
use Rattle.std.specs.Prelude.{◌≡◌, ◌≤◌, ◌++◌, ℕ, List, [], length}
use Rattle.spec_command.specs.Commands.{Request}
use Rattle.spec_run.specs.End.{IsEarly}
use Rattle.spec_run.specs.Work.{Work, Once, Reads, Over}
use Rattle.spec_run.specs.Commands.{Needs, work_of}

-- what has gone out behind a prefix of the stream stands at the front of all that goes out; no outcome is one of those that
-- come before the stream
pub record IsProgress (over : Over) : Type 0 where
  pub front : (xs ys : List ℕ) → length xs ≤ over.limit → (rest : List ℕ) × ((over.whole (xs ++ ys)).out ≡ over.partial xs ++ rest)
  pub late : (bytes : List ℕ) → IsEarly (over.whole bytes).end → ⊥

-- a command that does not read the stream puts nothing out where a question has no answer
abbrev pub IsFit : Work → Type 0
IsFit (Once o) = IsEarly o.end → o.out ≡ []
IsFit (Reads over) = IsProgress over

-- each command's work is so
abbrev pub WorksFit : Type 0
WorksFit = (asked : Request) (found : Needs asked) → IsFit (work_of asked found)
