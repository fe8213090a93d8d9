use Rattle.list_words.proofs.HexSteps.{Written}
use Rattle.list_words.proofs.hex.write_hex.Given as goal

abbrev pub invariant-loop-start : goal.invariant-loop-start
invariant-loop-start l = Written l.text l.start l.rest l.left l.n l.width

abbrev pub decreases-loop-start : goal.decreases-loop-start
decreases-loop-start l = l.start
