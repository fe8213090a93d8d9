use Rattle.std.proofs.Common.{◌+◌, ◌-◌, ◌^◌}
use Rattle.feat_solve.specs.Trail.{weight}
use Rattle.feat_solve.specs.Turns.{Keeps, IsReady}
use Rattle.feat_solve.proofs.search.Search.run.Given as goal

abbrev pub invariant-turns : goal.invariant-turns
invariant-turns l = record {
  keeps : Keeps l.initial.self l.self;
  ready : IsReady l.self;
}

abbrev pub decreases-turns : goal.decreases-turns
decreases-turns l = (l.initial.self.vars + 1) ^ (l.initial.self.vars + 1) - weight l.initial.self.vars l.self.trail
