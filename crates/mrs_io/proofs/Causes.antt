-- Counts of faults over several calls.
use Rattle.std.proofs.Common.{ℕ, ◌≤◌, arith, Result, Ok, Err}
use Rattle.spec_io.specs.Faults.{Rose}
use Rattle.mrs_io.specs.Causes.{HasCause}

-- a count that rose has risen later on too
pub Rose-later : (before now later : ℕ) → Rose before now → now ≤ later → Rose before later
Rose-later before now later rose le = omega arith

-- a count that rose since a later moment rose since an earlier one
pub Rose-earlier : (earlier before now : ℕ) → earlier ≤ before → Rose before now → Rose earlier now
Rose-earlier earlier before now le rose = omega arith

-- the cause of the last of several calls is the cause of them all
pub HasCause-earlier : {T E : Type 0} (earlier before now : ℕ) (result : Result T E) → earlier ≤ before → HasCause before now result → HasCause earlier now result
HasCause-earlier earlier before now (Ok x) le cause = record { later = omega arith; failed = tt }
HasCause-earlier earlier before now (Err e) le cause = record { later = omega arith; failed = Rose-earlier earlier before now le cause.failed }

-- what fails in one type of answer fails in another
pub HasCause-failed : {T U E D : Type 0} (before now : ℕ) (e : E) (d : D) → HasCause {T = T} {E = E} before now (Err e) → HasCause {T = U} {E = D} before now (Err d)
HasCause-failed before now e d cause = record { later = cause.later; failed = cause.failed }
