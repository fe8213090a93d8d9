use Rattle.std.proofs.Common.{◌≡◌, length}
use Rattle.spec_command.specs.Pins.{pins_in}
use Rattle.mrs_command.proofs.pins.PinsIterator.next.Given as goal

abbrev pub invariant-loop-key : goal.invariant-loop-key
invariant-loop-key l = pins_in l.self-inside.pairs ≡ l.fn.self

abbrev pub decreases-loop-key : goal.decreases-loop-key
decreases-loop-key l = length l.self-inside.pairs
