use Rattle.std.proofs.Common.{◌≡◌, ◌+◌, ◌-◌, ◌<◌, ◌≤◌, ℕ, pos, neg_ℤ, true, ◌||◌}
use Rattle.feat_solve.specs.Tables.{marked}
use Rattle.feat_solve.proofs.trail.first_unmarked.Given as goal

abbrev pub invariant-next : goal.invariant-next
invariant-next l = (l.from ≤ l.at)
    × ((x : ℕ) → l.from ≤ x → x < l.at → (marked l.on (pos x) || marked l.on (neg_ℤ (pos x))) ≡ true)

abbrev pub decreases-next : goal.decreases-next
decreases-next l = l.vars + 1 - l.at
