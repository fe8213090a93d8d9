use Rattle.std.proofs.Common.{◌≤◌, Bool, List, reverse, take, length}
use Rattle.feat_solve.proofs.Lemmas.{Walked}
use Rattle.feat_solve.proofs.learning.learn_kept.Given as goal

abbrev pub invariant-walk : goal.invariant-walk
invariant-walk l = (l.left ≤ length l.entries)
    × ((cuts : List Bool) → Walked l.known l.conflict (reverse l.entries) (reverse (take l.left l.entries)) l.marks l.clause.items l.hints.items cuts)

abbrev pub decreases-walk : goal.decreases-walk
decreases-walk l = l.left
