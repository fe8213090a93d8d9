use Rattle.std.proofs.Common.{◌-◌}
use Rattle.std.specs.Vec.{vec_len}
use Rattle.feat_solve.proofs.watches.look_through.Given as goal

abbrev pub decreases-each : goal.decreases-each
decreases-each l = vec_len l.watchers - l.looked
