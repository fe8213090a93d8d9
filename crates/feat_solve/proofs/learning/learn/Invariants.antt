use Rattle.std.proofs.Common.{◌≡◌, ◌≤◌, ◌++◌, ◌∷◌, [], map, neg_ℤ, reverse, take, length}
use Rattle.feat_solve.specs.Learnt.{causes, grounds, chain}
use Rattle.feat_solve.proofs.learning.learn.Given as goal

abbrev pub invariant-walk : goal.invariant-walk
invariant-walk l = (l.left ≤ length l.entries)
    × (l.clause.items ++ map neg_ℤ (grounds l.known [] l.marks (reverse (take l.left l.entries)))
    ≡ map neg_ℤ (grounds l.known [] (causes l.known l.conflict) (reverse l.entries)))
    × (l.hints.items ++ chain l.known [] l.marks (reverse (take l.left l.entries))
    ≡ l.conflict ∷ chain l.known [] (causes l.known l.conflict) (reverse l.entries))

abbrev pub decreases-walk : goal.decreases-walk
decreases-walk l = l.left
