-- What this crate's faults stand for.
use Rattle.bit_pattern.specs.Views.{refusal_of}
use Rattle.spec_walk.specs.Event as event
use Rattle.spec_walk.specs.Event.{Fault}
use Rattle.mrs_walk.specs.declared.fault.Why.{Why}
use Rattle.mrs_walk.specs.declared.fault.Why.TheVariants.{Missing, UnlistedKind, WrongShape, BadPattern, BadRange, BadName, Doubled, TooMany, NoSet}
use Rattle.mrs_walk.specs.declared.fault.SchemaFault.{SchemaFault}

abbrev pub why_of : Why → event.Why
why_of (Missing name) = event.Missing name
why_of UnlistedKind = event.UnlistedKind
why_of WrongShape = event.WrongShape
why_of (BadPattern fault) = event.BadPattern (refusal_of fault)
why_of BadRange = event.BadRange
why_of BadName = event.BadName
why_of Doubled = event.Doubled
why_of TooMany = event.TooMany
why_of NoSet = event.NoSet

abbrev pub fault_of : SchemaFault → Fault
fault_of f = record { at = f.path; why = why_of f.why }
