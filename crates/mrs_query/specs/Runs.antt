-- What a run says, with the text where it is that a line is refused or that no configuration fits.
use Rattle.std.specs.Prelude.{◌≡◌, ℕ, ℤ, List, []}
use Rattle.spec_io.specs.States.{Writing}
use Rattle.spec_run.specs.End.{End}
use Rattle.spec_run.specs.Scene.{Scene}
use Rattle.spec_run.specs.Refutation.{IsRefutation}
use Rattle.spec_run.specs.Answers.{Answers}
use Rattle.spec_run.specs.Theorem.{ListingTheorem}
use Rattle.spec_lines.specs.LineFault as spec
use Rattle.spec_lines.specs.Reasons as reasons
use Rattle.list_words.specs.Faults.{IsFault}
use Rattle.list_words.specs.Listers.{machine}
use Rattle.list_words.specs.declared.lister.Lister.{Lister}
use Rattle.list_words.specs.declared.line_fault.LineFault.{LineFault}
use Rattle.mrs_query.specs.declared.status.Status.{Status}
use Rattle.mrs_query.specs.declared.status.Status.TheVariants as status
use Rattle.mrs_query.specs.declared.status.QuestionFault.TheVariants as question
use Rattle.mrs_query.specs.declared.ended.Ended.{Ended}
use Rattle.mrs_query.specs.End.{end_of}

-- the text of the reason of a fault, as it is told of a line that was read by some lister
pub record IsReason (fault : LineFault) (text : List ℕ) : Type 0 where
  pub lister : Lister
  pub told : spec.LineFault
  pub fault_is : IsFault lister.names.now lister.tree.now fault told
  pub is : text ≡ reasons.reason (machine lister) told.why

-- the text of a log of so many steps that refutes some clauses
pub record IsLogText (steps : ℕ) (text : List ℕ) : Type 0 where
  pub variables : ℕ
  pub clauses : List (List ℤ)
  pub refutation : IsRefutation variables clauses steps text

-- a line that is refused has a reason, and where no configuration fits there is a log; the text of any other status is empty
abbrev pub HasText : Status → List ℕ → Type 0
HasText (status.Question (question.Line line fault)) text = IsReason fault text
HasText (status.Refuted steps) text = IsLogText steps text
HasText status text = text ≡ []

-- the end for which a status stands, with its text
abbrev pub told_as : Ended → End
told_as ended = end_of ended.status ended.text.items

-- with the text of the status, the run answers as it ends
pub record Runs (words : List (List ℕ)) (scene : Scene) (err err_after : Writing) (status : Status) : Type 0 where
  pub text : List ℕ
  pub is : HasText status text
  pub answers : Answers words scene err err_after (end_of status text)

-- with the text of the status, the listing theorem holds of the run
pub record Lists (words : List (List ℕ)) (scene : Scene) (err err_after : Writing) (status : Status) : Type 0 where
  pub text : List ℕ
  pub theorem : ListingTheorem words scene err err_after (end_of status text)
