use Rattle.mrs_walk.specs.Here.{spot_of}
use Rattle.features_reader.proofs.ConstraintLaws.{constraints_there}
use Rattle.features_reader.proofs.constraints.read_own_constraints.Goals as goal

pub returns-in-Some-clause-walk : goal.returns-in-Some-clause-walk
returns-in-Some-clause-walk c = constraints_there c.read_constraints.result _ (spot_of c.args.here.now) (spot_of c.in-Some.list) _ _ c.in-Some.ensures c.read_constraints.ensures.walk
