use Rattle.std.proofs.Common.{ℕ, ◌++◌, take, arith, length-append, length-take}
use Rattle.std.proofs.KnownBytes.{Consumes-trans}
use Rattle.mrs_io.proofs.read_within.read_within.Goals as goal

-- the last piece goes past the limit, and it was no longer than the limit and one allow
pub returns-then-limit-len-clause-longer : goal.returns-then-limit-len-clause-longer
returns-then-limit-len-clause-longer g c = λ _. record {
  bytes = c.loop-count.bytes.items ++ take c.in-Ok.count c.read.new.buf;
  whole = omega (arith, length-append {A = ℕ}, length-take {A = ℕ}, c.in-Ok.ensures.bound.0, c.in-Ok.ensures.bound.1);
  front = Consumes-trans _ _ _ _ _ c.loop-count.invariant.came c.in-Ok.ensures.bytes.0;
}
