use Rattle.std.proofs.Common.{length, ◌-◌, ◌≡◌, ◌≤◌, take}
use Rattle.std.specs.Io.KnownBytes.{Consumes}
use Rattle.mrs_io.proofs.whole.fill.Given as goal

abbrev pub invariant-loop-count : goal.invariant-loop-count
invariant-loop-count g l = record {
  within : l.count ≤ length l.buf;
  came : Consumes (g.S.Source.reading l.fn.source).left (g.S.Source.reading l.source).left (take l.count l.buf);
  later : (g.S.Source.reading l.fn.source).faults ≤ (g.S.Source.reading l.source).faults;
  untouched : length l.buf ≡ 0 → l.source ≡ l.fn.source;
}

abbrev pub decreases-loop-count : goal.decreases-loop-count
decreases-loop-count g l = length l.initial.buf - l.count
