-- What became of a text for the sink of messages.
use Rattle.std.specs.Prelude.{◌≤◌, ℕ, List, [], Result, Ok, Err}
use Rattle.std.specs.Io.KnownBytes.{Appends}
use Rattle.spec_io.specs.Faults.{Rose}
use Rattle.spec_io.specs.States.{Writing}
use Rattle.spec_walk.specs.Event.{Why, Missing}
use Rattle.mrs_io.specs.Pieces.{AppendsPart}
use Rattle.mrs_io.specs.declared.fault.Failed.{Failed}

-- it went out whole, or the sink failed and took a part of it
abbrev pub Wrote : Writing → Writing → List ℕ → Result (Unit {0}) Failed → Type 0
Wrote before after text (Ok done) = Appends before.taken after.taken text × (before.faults ≤ after.faults)
Wrote before after text (Err failed) = AppendsPart before.taken after.taken text × Rose before.faults after.faults × (before.faults ≤ after.faults)

-- the name of the member that is missing, if one is
abbrev pub member_of : Why → List ℕ
member_of (Missing member) = member
member_of other = []
