-- What is read, and why it is refused, as the definition has it.
use Rattle.spec_run.specs.End as run
use Rattle.mrs_walk.specs.Faults as schema
use Rattle.release_opening.specs.declared.document.Which.{Which}
use Rattle.release_opening.specs.declared.document.Which.TheVariants as which
use Rattle.release_opening.specs.declared.document.DocFault.{DocFault}
use Rattle.release_opening.specs.declared.document.DocFault.TheVariants as fault

abbrev pub which_of : Which → run.Which
which_of which.Insns = run.Insns
which_of which.Features = run.Features
which_of which.Log = run.Log
which_of which.Input = run.Input

abbrev pub fault_of : DocFault → run.DocFault
fault_of fault.Json = run.Json
fault_of (fault.Schema f) = run.Schema (schema.fault_of f)
fault_of (fault.Log at) = run.Syntax at
