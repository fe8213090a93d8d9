use Rattle.std.proofs.Common.{length}
use Rattle.mrs_arena.specs.Placed.{aliases_of}
use Rattle.insn_alias.proofs.WalkLaws.{Walk, left}
use Rattle.insn_alias.proofs.choice.preferred.Given as goal

-- from the next alias on the preferred one is the tree's
abbrev pub invariant-aliases : goal.invariant-aliases
invariant-aliases l = Walk l.tree l.fn.l.0 l.config l.w l.next

abbrev pub decreases-aliases : goal.decreases-aliases
decreases-aliases l = left (length (aliases_of l.tree.nodes)) l.next
