use Rattle.std.proofs.Common.{◌≡◌, ◌++◌, drop}
use Rattle.feat_solve.proofs.learning.mark_clause.Given as goal

abbrev pub invariant-loop-literal : goal.invariant-loop-literal
invariant-loop-literal l = l.marks ++ drop l.literal-index l.clause ≡ l.clause
