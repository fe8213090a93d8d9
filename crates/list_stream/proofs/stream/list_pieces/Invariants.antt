use Rattle.std.proofs.Common.{◌≡◌, ◌≤◌, length}
use Rattle.list_words.specs.Listers.{machine, form}
use Rattle.list_stream.specs.Progress.{Progress}
use Rattle.list_stream.proofs.stream.list_pieces.Given as goal

abbrev pub invariant-loop-k : goal.invariant-loop-k
invariant-loop-k g l = record {
  progress : Progress (form l.lister) (machine l.lister) (g.S.Source.reading l.initial.input) (g.S.Source.reading l.input) (g.K.Sink.writing l.initial.out) (g.K.Sink.writing l.out) l.k;
  input_later : (g.S.Source.reading l.initial.input).faults ≤ (g.S.Source.reading l.input).faults;
  out_later : (g.K.Sink.writing l.initial.out).faults ≤ (g.K.Sink.writing l.out).faults;
  room : length l.buffer ≡ 65536;
}
