use Rattle.std.proofs.Common.{◌≢◌, ◌++◌, ◌∙◌, sym, ap, string_bytes, arith}
use Rattle.std.specs.Str.Iter.{chars_rest}
use Rattle.spec_walk.specs.Pointer.{escaped}
use Rattle.mrs_walk.proofs.PointerLaws.{escaped_more}
use Rattle.mrs_walk.proofs.place.push_escaped.Goals as goal

pub loop-c-preserved : goal.loop-c-preserved
loop-c-preserved c =
    let tilde : c.in-Some.c ≢ 126 = omega arith in
    let slash : c.in-Some.c ≢ 47 = omega arith in
    let step = c.in-Some.ensures.steps in
    let so_far = ap (λ rest. string_bytes c.loop-c.out ++ escaped rest) (sym step.0) ∙ c.loop-c.invariant in
    escaped_more _ _ (chars_rest c.next.new.self) _ c.in-Some.c tilde slash c.in_ok-push-in_default.ensures.bytes so_far
