use Rattle.std.proofs.Common.{◌≡◌, ◌≤◌, max, drop}
use Rattle.feat_solve.specs.Reach.{reach_of}
use Rattle.feat_solve.proofs.reach.greatest.Given as goal

abbrev pub invariant-loop-literal : goal.invariant-loop-literal
invariant-loop-literal l = (max l.most (reach_of (drop l.literal-index l.clause)) ≡ reach_of l.clause) × (l.most ≤ 2147483647)
