use Rattle.std.proofs.Common.{length}
use Rattle.insn_decode.proofs.growing.+grow.Given as goal

abbrev pub decreases-grow : goal.decreases-grow
decreases-grow l = length l.members.now
