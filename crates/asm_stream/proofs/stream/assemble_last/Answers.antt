use Rattle.std.proofs.Common.{◌≡◌, ◌≤◌, ◌<◌, ◌+◌, length, arith}
use Rattle.asm_stream.proofs.Streaming.{stopped, finished, progress_next, progress_short, more_past, failed_past, nothing_behind}
use Rattle.asm_stream.proofs.stream.assemble_last.Goals as goal

pub returns-in-Err : goal.returns-in-Err
returns-in-Err g c = λ r w size p il ol.
    let room : size + length c.assemble_piece.new.buffer ≤ size + length c.args.buffer.now = omega (arith, c.assemble_piece.auto.buffer) in
    rw c.ended.ensures (stopped c.args.lister.now _ c.args.assembly.now c.assemble_piece.new.assembly r _ _ w _ _ size p c.assemble_piece.new.buffer c.in-Err.stop room il ol c.in-Err.ensures.piece c.in-Err.ensures.cause)

pub returns-then-n-buffer : goal.returns-then-n-buffer
returns-then-n-buffer g c = λ r w size p il ol.
    let short : c.in-Ok.n < length c.assemble_piece.new.buffer = omega (arith, c.assemble_piece.auto.buffer) in
    let q = progress_short c.args.lister.now c.args.assembly.now c.assemble_piece.new.assembly r _ _ w _ _ size c.in-Ok.n c.assemble_piece.new.buffer p c.in-Ok.ensures.piece in
    let within : size + c.in-Ok.n ≤ size + length c.args.buffer.now = omega (arith, c.assemble_piece.auto.buffer) in
    rw c.ended-then-n-buffer.ensures (finished c.args.lister.now _ c.assemble_piece.new.assembly r _ w _ _ (size + c.in-Ok.n) q within (c.in-Ok.ensures.piece.end short) c.finish.result
    (omega (arith, c.in-Ok.ensures.cause.input_later)) (omega (arith, c.in-Ok.ensures.cause.out_later)) c.finish.ensures.later c.finish.ensures.last)

pub returns-in-End : goal.returns-in-End
returns-in-End g c = λ r w size p il ol.
    let full : length c.assemble_piece.new.buffer ≤ c.in-Ok.n = omega (arith, c.assemble_piece.auto.buffer) in
    let limit : size + length c.assemble_piece.new.buffer ≡ size + length c.args.buffer.now = omega (arith, c.assemble_piece.auto.buffer) in
    let q = progress_next c.args.lister.now c.args.assembly.now c.assemble_piece.new.assembly r _ _ w _ _ size c.in-Ok.n c.assemble_piece.new.buffer full p c.in-Ok.ensures.piece in
    let k = nothing_behind c.args.lister.now _ c.assemble_piece.new.assembly r _ _ w _ q c.in-End.ensures in
    rw c.ended-in-End.ensures (finished c.args.lister.now _ c.assemble_piece.new.assembly r _ w _ _ (size + length c.assemble_piece.new.buffer) k (omega (arith, limit)) c.in-End.ensures.1 c.finish-in-End.result
    (omega (arith, c.in-Ok.ensures.cause.input_later, c.in-End.ensures.2)) (omega (arith, c.in-Ok.ensures.cause.out_later)) c.finish-in-End.ensures.later c.finish-in-End.ensures.last)

pub returns-in-More : goal.returns-in-More
returns-in-More g c = λ r w size p il ol.
    let full : length c.assemble_piece.new.buffer ≤ c.in-Ok.n = omega (arith, c.assemble_piece.auto.buffer) in
    let limit : size + length c.assemble_piece.new.buffer ≡ size + length c.args.buffer.now = omega (arith, c.assemble_piece.auto.buffer) in
    let q = progress_next c.args.lister.now c.args.assembly.now c.assemble_piece.new.assembly r _ _ w _ _ size c.in-Ok.n c.assemble_piece.new.buffer full p c.in-Ok.ensures.piece in
    more_past c.args.lister.now _ c.assemble_piece.new.assembly r _ _ w _ _ limit q (omega (arith, c.in-Ok.ensures.cause.input_later)) (omega (arith, c.in-Ok.ensures.cause.out_later)) c.in-More.ensures

pub returns-in-Failed : goal.returns-in-Failed
returns-in-Failed g c = λ r w size p il ol.
    let full : length c.assemble_piece.new.buffer ≤ c.in-Ok.n = omega (arith, c.assemble_piece.auto.buffer) in
    let limit : size + length c.assemble_piece.new.buffer ≡ size + length c.args.buffer.now = omega (arith, c.assemble_piece.auto.buffer) in
    let q = progress_next c.args.lister.now c.args.assembly.now c.assemble_piece.new.assembly r _ _ w _ _ size c.in-Ok.n c.assemble_piece.new.buffer full p c.in-Ok.ensures.piece in
    failed_past c.args.lister.now _ c.assemble_piece.new.assembly r _ _ w _ _ limit q (omega (arith, c.in-Ok.ensures.cause.input_later)) (omega (arith, c.in-Ok.ensures.cause.out_later)) c.in-Failed.ensures
