-- How a command ends that does not read the stream, by its one outcome.
use Rattle.spec_io.specs.States.{Reading, Writing}
use Rattle.spec_run.specs.End.{End}
use Rattle.spec_run.specs.Work.{Outcome, Once}
use Rattle.spec_run.specs.Ran.{Ran}

-- whatever source stands by, and is left as it is
abbrev pub EndsOnce : Writing → Writing → Outcome → End → Type 0
EndsOnce out out_after o end = (input : Reading) → Ran input input out out_after (Once o) end
