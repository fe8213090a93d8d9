use Rattle.mrs_walk.specs.Here.{spot_of}
use Rattle.features_reader.proofs.ParamReadLaws.{ParamsRead}
use Rattle.features_reader.proofs.params.read_params.Given as goal

abbrev pub invariant-loop-i : goal.invariant-loop-i
invariant-loop-i l = ParamsRead (spot_of l.list).at l.fn.draft l.draft l.params.items l.constraints.items l.i l.values
