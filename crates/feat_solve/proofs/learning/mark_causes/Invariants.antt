use Rattle.std.proofs.Common.{◌≡◌, ◌++◌, map, neg_ℤ, drop}
use Rattle.feat_solve.proofs.learning.mark_causes.Given as goal

abbrev pub invariant-loop-literal : goal.invariant-loop-literal
invariant-loop-literal l = l.needed ++ map neg_ℤ (drop l.literal-index l.clause) ≡ l.fn.needed ++ map neg_ℤ l.clause
