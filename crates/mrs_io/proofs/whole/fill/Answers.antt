use Rattle.std.proofs.Common.{arith}
use Rattle.mrs_io.proofs.Parts.{Consumes-next}
use Rattle.mrs_io.proofs.whole.fill.Goals as goal

pub loop-count-preserved : goal.loop-count-preserved
loop-count-preserved g c = record {
  within = c.in_ok-more.ensures.bound;
  came = Consumes-next _ _ _ _ _ _ _ c.loop-count.invariant.came c.in_ok-more.ensures.front c.in_ok-more.ensures.bytes.0;
  later = omega (arith, c.in_ok-more.ensures.cause.later);
  untouched = λ none. absurd (omega arith);
}
