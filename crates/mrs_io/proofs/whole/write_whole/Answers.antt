use Rattle.std.proofs.Common.{arith}
use Rattle.mrs_io.proofs.Parts.{Appends-next}
use Rattle.mrs_io.proofs.whole.write_whole.Goals as goal

pub loop-count-preserved : goal.loop-count-preserved
loop-count-preserved g c = record {
  within = c.in_ok-more.ensures.bound.1;
  went = Appends-next _ _ _ _ _ _ c.loop-count.invariant.went c.in_ok-more.ensures.bytes;
  later = omega (arith, c.in_ok-more.ensures.cause.later);
  untouched = λ none. absurd (omega arith);
}
