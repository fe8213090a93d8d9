use Rattle.mrs_walk.specs.Here.{spot_of}
use Rattle.instructions_reader.proofs.SetLaws.{SetsRead}
use Rattle.instructions_reader.proofs.sets.read_sets.Given as goal

abbrev pub invariant-loop-i : goal.invariant-loop-i
invariant-loop-i l = SetsRead l.isa (spot_of l.fn.here).at l.found l.fn.draft l.draft l.i l.sets
