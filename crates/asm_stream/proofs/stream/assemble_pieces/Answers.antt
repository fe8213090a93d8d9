use Rattle.std.proofs.Common.{◌≡◌, ◌<◌, ◌≤◌, ◌+◌, ◌*◌, ◌/◌, ◌%◌, length, take, length-take, subst, arith}
use Rattle.asm_stream.specs.Assembles.{Assembles}
use Rattle.asm_stream.proofs.Streaming.{stopped, finished, progress_next, progress_short, few_lines}
use Rattle.asm_stream.proofs.stream.assemble_pieces.Goals as goal

pub assemble_piece-requires-clause-number : goal.assemble_piece-requires-clause-number
assemble_piece-requires-clause-number g c =
    let few = few_lines c.args.lister.now _ _ _ _ _ (c.loop-k._k * 65536) c.loop-k.invariant.progress in
    omega (arith, few, c.loop-k.invariant.room)

pub returns-in-Err : goal.returns-in-Err
returns-in-Err g c =
    let room : c.loop-k._k * 65536 + length c.assemble_piece.new.buffer ≤ c.args.max = omega (arith, c.assemble_piece.auto.buffer, c.loop-k.invariant.room) in
    rw c.ended.ensures (stopped c.args.lister.now _ _ c.assemble_piece.new.assembly _ _ _ _ _ _ (c.loop-k._k * 65536) c.loop-k.invariant.progress c.assemble_piece.new.buffer c.in-Err.stop room c.loop-k.invariant.input_later c.loop-k.invariant.out_later c.in-Err.ensures.piece c.in-Err.ensures.cause)

pub returns-then-n-lt-PIECE : goal.returns-then-n-lt-PIECE
returns-then-n-lt-PIECE g c =
    let short : c.in-Ok.n < length c.assemble_piece.new.buffer = omega (arith, c.assemble_piece.auto.buffer, c.loop-k.invariant.room) in
    let q = progress_short c.args.lister.now _ c.assemble_piece.new.assembly _ _ _ _ _ _ (c.loop-k._k * 65536) c.in-Ok.n c.assemble_piece.new.buffer c.loop-k.invariant.progress c.in-Ok.ensures.piece in
    let within : c.loop-k._k * 65536 + c.in-Ok.n ≤ c.args.max = omega arith in
    rw c.ended-then-n-lt-PIECE.ensures (finished c.args.lister.now _ c.assemble_piece.new.assembly _ _ _ _ _ (c.loop-k._k * 65536 + c.in-Ok.n) q within (c.in-Ok.ensures.piece.end short) c.finish.result
    (omega (arith, c.loop-k.invariant.input_later, c.in-Ok.ensures.cause.input_later)) (omega (arith, c.loop-k.invariant.out_later, c.in-Ok.ensures.cause.out_later)) c.finish.ensures.later c.finish.ensures.last)

pub loop-k-preserved : goal.loop-k-preserved
loop-k-preserved g c =
    let room : length c.assemble_piece.new.buffer ≡ 65536 = omega (arith, c.assemble_piece.auto.buffer, c.loop-k.invariant.room) in
    let full : length c.assemble_piece.new.buffer ≤ c.in-Ok.n = omega (arith, room) in
    let size : c.loop-k._k * 65536 + length c.assemble_piece.new.buffer ≡ (c.loop-k._k + 1) * 65536 = omega (arith, room) in
    record {
      progress = rw size at (progress_next c.args.lister.now _ c.assemble_piece.new.assembly _ _ _ _ _ _ (c.loop-k._k * 65536) c.in-Ok.n c.assemble_piece.new.buffer full c.loop-k.invariant.progress c.in-Ok.ensures.piece);
      input_later = omega (arith, c.loop-k.invariant.input_later, c.in-Ok.ensures.cause.input_later);
      out_later = omega (arith, c.loop-k.invariant.out_later, c.in-Ok.ensures.cause.out_later);
      room = room;
    }

pub assemble_last-requires-clause-number : goal.assemble_last-requires-clause-number
assemble_last-requires-clause-number g c =
    let few = few_lines c.args.lister.now _ _ _ _ _ (c.loop-k._k * 65536) c.loop-k.invariant.progress in
    omega (arith, few, c.loop-k.invariant.room, length-take (c.args.max % 65536) c.loop-k.buffer)

pub returns : goal.returns
returns g c =
    let size : c.loop-k._k * 65536 + length (take (c.args.max % 65536) c.loop-k.buffer) ≡ c.args.max = omega (arith, length-take (c.args.max % 65536) c.loop-k.buffer, c.loop-k.invariant.room) in
    let done = c.assemble_last.ensures _ _ (c.loop-k._k * 65536) c.loop-k.invariant.progress c.loop-k.invariant.input_later c.loop-k.invariant.out_later in
    subst (λ n. Assembles c.args.lister.now n (g.S.Source.reading c.args.input.now) (g.S.Source.reading c.assemble_last.new.input) (g.K.Sink.writing c.args.out.now) (g.K.Sink.writing c.assemble_last.new.out) c.assemble_last.result) size done
