use Rattle.std.proofs.Common.{length, ◌-◌, ◌≡◌, ◌≤◌, take}
use Rattle.std.specs.Io.KnownBytes.{Appends}
use Rattle.mrs_io.proofs.whole.write_whole.Given as goal

abbrev pub invariant-loop-count : goal.invariant-loop-count
invariant-loop-count g l = record {
  within : l.count ≤ length l.bytes;
  went : Appends (g.K.Sink.writing l.fn.sink).taken (g.K.Sink.writing l.sink).taken (take l.count l.bytes);
  later : (g.K.Sink.writing l.fn.sink).faults ≤ (g.K.Sink.writing l.sink).faults;
  untouched : length l.bytes ≡ 0 → l.sink ≡ l.fn.sink;
}

abbrev pub decreases-loop-count : goal.decreases-loop-count
decreases-loop-count g l = length l.bytes - l.count
