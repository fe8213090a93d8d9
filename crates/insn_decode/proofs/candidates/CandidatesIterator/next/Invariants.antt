use Rattle.std.proofs.Common.{◌≡◌, ◌-◌, length, map, drop, All}
use Rattle.insn_decode.specs.Members.{encoding_of}
use Rattle.insn_decode.specs.Judged.{IsMemberOf}
use Rattle.insn_decode.specs.Left.{found_left}
use Rattle.insn_decode.proofs.candidates.CandidatesIterator.next.Given as goal

-- those left are those left at the start, since the leaves that were passed over are excluded
abbrev pub invariant-loop-self : goal.invariant-loop-self
invariant-loop-self l =
    (found_left l.self-inside.tree.now l.self-inside.config.now l.self-inside.w (map encoding_of (drop l.self-inside.at l.self-inside.members.now)) ≡ l.fn.self)
    × All (IsMemberOf l.self-inside.tree.now) (map encoding_of l.self-inside.members.now)

abbrev pub decreases-loop-self : goal.decreases-loop-self
decreases-loop-self l = length l.self-inside.members.now - l.self-inside.at
