use Rattle.std.proofs.Common.{◌≡◌, ◌≤◌, ◌*◌, length}
use Rattle.asm_stream.specs.Progress.{Progress}
use Rattle.asm_stream.proofs.stream.assemble_pieces.Given as goal

abbrev pub invariant-loop-k : goal.invariant-loop-k
invariant-loop-k g l = record {
  progress : Progress l.lister l.assembly (g.S.Source.reading l.initial.input) (g.S.Source.reading l.input) (g.K.Sink.writing l.initial.out) (g.K.Sink.writing l.out) (l._k * 65536);
  input_later : (g.S.Source.reading l.initial.input).faults ≤ (g.S.Source.reading l.input).faults;
  out_later : (g.K.Sink.writing l.initial.out).faults ≤ (g.K.Sink.writing l.out).faults;
  room : length l.buffer ≡ 65536;
}
