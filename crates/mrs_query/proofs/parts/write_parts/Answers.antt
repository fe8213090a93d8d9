use Rattle.std.proofs.Common.{arith}
use Rattle.std.proofs.lemmas.Result.{err_from_is_err_and}
use Rattle.mrs_io.proofs.Causes.{Rose-earlier}
use Rattle.mrs_query.proofs.TextParts.{PartsLeft-at, PartsLeft-next, PartsLeft-cut}
use Rattle.mrs_query.proofs.parts.write_parts.Goals as goal

pub returns-in_err-write_whole : goal.returns-in_err-write_whole
returns-in_err-write_whole g c =
    let p = err_from_is_err_and c.from_residual.result c.from_residual.ensures.1 in
    let cause = c.in_err-write_whole.ensures.cause in
    rw p.1 (
      PartsLeft-cut _ _ _ _ _ _ (PartsLeft-at (λ part. part.now) _ _ _ c.args.parts.now c.loop-part.part-index _ c.loop-part-test.true c.loop-part.invariant.left) c.in_err-write_whole.ensures.part,
      Rose-earlier _ _ _ c.loop-part.invariant.later cause.failed,
      omega (arith, c.loop-part.invariant.later, cause.later),
    )

pub loop-part-preserved : goal.loop-part-preserved
loop-part-preserved g c = record {
  left = PartsLeft-next _ _ _ _ _ _ (PartsLeft-at (λ part. part.now) _ _ _ c.args.parts.now c.loop-part.part-index _ c.loop-part-test.true c.loop-part.invariant.left) c.in_ok-write_whole.ensures.whole;
  later = omega (arith, c.loop-part.invariant.later, c.in_ok-write_whole.ensures.cause.later);
}
