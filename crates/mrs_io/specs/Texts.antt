-- The texts of faults.
use Rattle.std.specs.Prelude.{ℕ, List, codes}
use Rattle.mrs_io.specs.declared.fault.FetchFault.{FetchFault}
use Rattle.mrs_io.specs.declared.fault.FetchFault.TheVariants as fault

abbrev pub fault_text : FetchFault → List ℕ
fault_text fault.Failed = codes "the document was not read"
fault_text fault.TooLong = codes "the document is too long"
fault_text fault.NoMemory = codes "out of memory"
