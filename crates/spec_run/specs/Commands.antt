-- The commands: what is opened for each, and its work by what was opened.
use Rattle.std.specs.Prelude.{ℕ, Bool, true, false, List, [], Option, Some, None, is_some, Result}
use Rattle.spec_io.specs.Documents.{Document as Named}
use Rattle.spec_expressions.specs.Scope.{Configuration}
use Rattle.spec_instructions.specs.Paths.{labelled_leaf}
use Rattle.spec_decode.specs.Machine.{Machine}
use Rattle.spec_lines.specs.Streams.{form_by}
use Rattle.spec_lines.specs.LeafFields.{whole_leaf}
use Rattle.spec_command.specs.Commands.{Request, AskList, AskAsm, AskLeaf, AskConfig, AskProof, AskCheck}
use Rattle.spec_run.specs.End.{Which, Insns, Features, Log, Input, Done, Question, NoLeaf}
use Rattle.spec_run.specs.Opening.{OpeningError, machine_opened, configuration_opened, unconfigured}
use Rattle.spec_run.specs.Logs.{Checked, log_opened, log_outcome}
use Rattle.spec_run.specs.Listing.{list_work}
use Rattle.spec_run.specs.Assembling.{asm_work}
use Rattle.spec_run.specs.Configuring.{config_outcome}
use Rattle.spec_run.specs.Checking.{Counted, checks_opened, check_outcome}
use Rattle.spec_run.specs.Work.{Outcome, Work, Once, Reads}

-- what is opened for a command
abbrev pub Needs : Request → Type 0
Needs (AskList release bare limit asked) = Machine
Needs (AskAsm release limit asked) = Machine
Needs (AskLeaf release label) = Machine
Needs (AskConfig features pins) = Configuration
Needs (AskProof log) = Checked
Needs (AskCheck asked) = Counted

-- what the documents make of it, or why it is not opened
abbrev pub opened : (asked : Request) → List Named → Result (Needs asked) OpeningError
opened (AskList release bare limit asked) docs = machine_opened release asked docs
opened (AskAsm release limit asked) docs = machine_opened release asked docs
opened (AskLeaf release label) docs = machine_opened release unconfigured docs
opened (AskConfig features pins) docs = configuration_opened features pins docs
opened (AskProof log) docs = log_opened log docs
opened (AskCheck asked) docs = checks_opened asked docs

-- whether it is one of these: the Instructions document, the Features document, the log; the stream is none
abbrev pub among : Bool → Bool → Bool → Which → Bool
among insns features log Insns = insns
among insns features log Features = features
among insns features log Log = log
among insns features log Input = false

-- where a release is named, and a Features document may be
abbrev pub of_release : Bool → Which → Bool
of_release features which = among true features false which

-- where each may be named
abbrev pub of_checks : Bool → Bool → Which → Bool
of_checks insns features which = among insns features false which

abbrev pub is_log : Which → Bool
is_log which = among false false true which

-- whether the words name such a document
abbrev pub names_document : Request → Which → Bool
names_document (AskList release bare limit asked) which = of_release (is_some asked.features) which
names_document (AskAsm release limit asked) which = of_release (is_some asked.features) which
names_document (AskLeaf release label) which = of_release false which
names_document (AskConfig features pins) which = of_checks false true which
names_document (AskProof log) which = is_log which
names_document (AskCheck asked) which = of_checks (is_some asked.insns) (is_some asked.features) which

-- ---- `leaf`

abbrev pub leaf_outcome : Machine → Option ℕ → Outcome
leaf_outcome machine None = record { end = Question NoLeaf; out = [] }
leaf_outcome machine (Some k) = record { end = Done; out = whole_leaf machine k }

-- ---- what a command does by what was opened for it

abbrev pub work_of : (asked : Request) → Needs asked → Work
work_of (AskList release bare limit asked) machine = Reads (list_work (form_by bare) machine limit)
work_of (AskAsm release limit asked) machine = Reads (asm_work machine limit)
work_of (AskLeaf release label) machine = Once (leaf_outcome machine (labelled_leaf machine.paths label))
work_of (AskConfig features pins) g = Once (config_outcome g)
work_of (AskProof log) checked = Once (log_outcome checked)
work_of (AskCheck asked) counted = Once (check_outcome counted)
