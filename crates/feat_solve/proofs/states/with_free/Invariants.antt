use Rattle.std.proofs.Common.{◌≡◌, ◌≤◌, ◌-◌, ◌++◌, true, length, replicate}
use Rattle.feat_solve.proofs.states.with_free.Given as goal

abbrev pub invariant-loop-free : goal.invariant-loop-free
invariant-loop-free l = (length l.fn.states.items ≤ l._free)
    × (l.all.items ≡ l.fn.states.items ++ replicate (l._free - length l.fn.states.items) true)
