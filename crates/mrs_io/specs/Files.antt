-- A shelf of files.
use Rattle.std.specs.Prelude.{◌≡◌, ℕ, Err, Result, Vec}
use Rattle.std.specs.declared.alloc.Global.{Global}
use Rattle.mrs_io.specs.declared.fault.FetchFault.{FetchFault}
use Rattle.mrs_io.specs.declared.fault.FetchFault.TheVariants as fault
use Rattle.spec_io.specs.Faults.{next_count}

-- the count rises by one at `Failed`, and stays at each other answer
abbrev pub CountsFailed : ℕ → ℕ → Result (Vec ℕ Global) FetchFault → Type 0
CountsFailed before now (Err fault.Failed) = now ≡ next_count before
CountsFailed before now result = now ≡ before
