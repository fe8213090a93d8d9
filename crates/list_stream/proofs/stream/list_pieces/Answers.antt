use Rattle.std.proofs.Common.{◌≡◌, ◌<◌, ◌≤◌, ◌+◌, ◌*◌, ◌/◌, ◌%◌, length, take, length-take, subst, arith}
use Rattle.spec_run.specs.Work.{Reads}
use Rattle.spec_run.specs.Listing.{list_work}
use Rattle.spec_run.specs.Ran.{Ran}
use Rattle.list_words.specs.Listers.{machine, form}
use Rattle.list_stream.specs.Endings.{end_of}
use Rattle.list_stream.proofs.Streaming.{progress_next, stopped, finished}
use Rattle.list_stream.proofs.stream.list_pieces.Goals as goal

pub returns-in-Err : goal.returns-in-Err
returns-in-Err g c =
    let room : c.loop-k.k * 65536 + length c.list_piece.new.buffer ≤ c.args.max = omega (arith, c.list_piece.auto.buffer, c.loop-k.invariant.room) in
    rw c.ended.ensures (stopped _ _ _ _ _ _ _ _ _ c.loop-k.k c.list_piece.new.buffer c.in-Err.stop room c.loop-k.invariant.input_later c.loop-k.invariant.out_later c.loop-k.invariant.progress c.in-Err.ensures.piece c.in-Err.ensures.cause)

pub returns-then-n-lt-PIECE : goal.returns-then-n-lt-PIECE
returns-then-n-lt-PIECE g c =
    let room : c.loop-k.k * 65536 + length c.list_piece.new.buffer ≤ c.args.max = omega (arith, c.list_piece.auto.buffer, c.loop-k.invariant.room) in
    let short : c.in-Ok.n < length c.list_piece.new.buffer = omega (arith, c.list_piece.auto.buffer, c.loop-k.invariant.room) in
    finished _ _ _ _ _ _ _ _ _ _ c.loop-k.k c.in-Ok.n c.list_piece.new.buffer c.finish.result room short c.loop-k.invariant.input_later c.loop-k.invariant.out_later c.in-Ok.ensures.cause c.loop-k.invariant.progress c.in-Ok.ensures.piece c.finish.ensures

pub loop-k-preserved : goal.loop-k-preserved
loop-k-preserved g c =
    let room : length c.list_piece.new.buffer ≡ 65536 = omega (arith, c.list_piece.auto.buffer, c.loop-k.invariant.room) in record {
      progress = progress_next _ _ 0 _ _ _ _ _ _ c.loop-k.k c.in-Ok.n c.list_piece.new.buffer room (omega arith) c.loop-k.invariant.progress c.in-Ok.ensures.piece;
      input_later = omega (arith, c.loop-k.invariant.input_later, c.in-Ok.ensures.cause.input_later);
      out_later = omega (arith, c.loop-k.invariant.out_later, c.in-Ok.ensures.cause.out_later);
      room = room;
    }

pub returns : goal.returns
returns g c =
    let from : c.args.max / 65536 * 65536 ≡ c.loop-k.k * 65536 = omega arith in
    let size : c.args.max / 65536 * 65536 + length (take (c.args.max % 65536) c.loop-k.buffer) ≡ c.args.max = omega (arith, length-take (c.args.max % 65536) c.loop-k.buffer, c.loop-k.invariant.room) in
    let ran = c.list_last.ensures _ _ c.loop-k.k c.loop-k.invariant.progress from c.loop-k.invariant.input_later c.loop-k.invariant.out_later in
    subst
    (λ n. Ran (g.S.Source.reading c.args.input.now) (g.S.Source.reading c.list_last.new.input) (g.K.Sink.writing c.args.out.now) (g.K.Sink.writing c.list_last.new.out) (Reads (list_work (form c.args.lister.now) (machine c.args.lister.now) n)) (end_of c.list_last.result))
    size ran
