use Rattle.std.proofs.Common.{map}
use Rattle.mrs_walk.specs.Here.{spot_of}
use Rattle.expression_reader.proofs.ExprsLaws.{PartsRead}
use Rattle.features_reader.proofs.constraints.read_constraints.Given as goal

abbrev pub invariant-loop-i : goal.invariant-loop-i
invariant-loop-i l = PartsRead (spot_of l.list).at l.fn.draft l.draft (map (λ id. id.0) l.ids.items) l.i l.values
