use Rattle.std.proofs.Common.{length, ◌-◌, ◌≤◌}
use Rattle.std.specs.Io.KnownBytes.{Consumes}
use Rattle.mrs_io.proofs.read_within.read_within.Given as goal

abbrev pub invariant-loop-count : goal.invariant-loop-count
invariant-loop-count g l = record {
  within : length l.bytes.items ≤ l.limit;
  later : (g.S.Source.reading l.fn.source).faults ≤ (g.S.Source.reading l.source).faults;
  came : Consumes (g.S.Source.reading l.fn.source).left (g.S.Source.reading l.source).left l.bytes.items;
}

abbrev pub decreases-loop-count : goal.decreases-loop-count
decreases-loop-count g l = l.limit - length l.bytes.items
