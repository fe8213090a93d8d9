use Rattle.std.proofs.Common.{◌≤◌, map, drop}
use Rattle.mrs_query.specs.Texts.{joined}
use Rattle.mrs_query.proofs.TextParts.{PartsLeft}
use Rattle.mrs_query.proofs.parts.write_parts.Given as goal

abbrev pub invariant-loop-part : goal.invariant-loop-part
invariant-loop-part g l = record {
  left : PartsLeft (g.E.Sink.writing l.initial.sink).taken (g.E.Sink.writing l.sink).taken (map (λ part. part.now) (drop l.part-index l.parts)) (joined (map (λ part. part.now) l.parts));
  later : (g.E.Sink.writing l.initial.sink).faults ≤ (g.E.Sink.writing l.sink).faults;
}
