use Rattle.std.proofs.Common.{◌≡◌, ◌≤◌, max, drop}
use Rattle.feat_solve.specs.Reach.{reach}
use Rattle.feat_solve.proofs.reach.greatest_variable.Given as goal

abbrev pub invariant-loop-clause : goal.invariant-loop-clause
invariant-loop-clause l = (max l.most (reach (drop l.clause-index l.clauses)) ≡ reach l.clauses) × (l.most ≤ 2147483647)
