use Rattle.std.proofs.Common.{◌≡◌, ◌≤◌, ◌+◌, ◌*◌, length, arith}
use Rattle.list_stream.proofs.Streaming.{stopped_at, finished_from, finished_whole, more_behind, look_failed}
use Rattle.list_stream.proofs.stream.list_last.Goals as goal

pub returns-in-Err : goal.returns-in-Err
returns-in-Err g c = λ r w k p e il ol.
    let room : k * 65536 + length c.list_piece.new.buffer ≤ c.args.offset + length c.args.buffer.now = omega (arith, e, c.list_piece.auto.buffer) in
    rw c.ended.ensures (stopped_at _ _ _ r _ _ w _ _ k c.args.offset c.list_piece.new.buffer c.in-Err.stop e room il ol p c.in-Err.ensures.piece c.in-Err.ensures.cause)

pub returns-then-n-buffer : goal.returns-then-n-buffer
returns-then-n-buffer g c = λ r w k p e il ol.
    let room : k * 65536 + length c.list_piece.new.buffer ≤ c.args.offset + length c.args.buffer.now = omega (arith, e, c.list_piece.auto.buffer) in
    finished_from _ _ _ r _ _ w _ _ _ k c.in-Ok.n c.args.offset c.list_piece.new.buffer c.finish.result e room (omega arith) il ol c.in-Ok.ensures.cause p c.in-Ok.ensures.piece c.finish.ensures

pub returns-in-End : goal.returns-in-End
returns-in-End g c = λ r w k p e il ol.
    let room : k * 65536 + length c.list_piece.new.buffer ≤ c.args.offset + length c.args.buffer.now = omega (arith, e, c.list_piece.auto.buffer) in
    finished_whole _ _ _ r _ _ _ w _ _ _ k c.in-Ok.n c.args.offset c.list_piece.new.buffer c.finish-in-End.result e room il ol c.in-Ok.ensures.cause p c.in-Ok.ensures.piece c.in-End.ensures c.finish-in-End.ensures

pub returns-in-More : goal.returns-in-More
returns-in-More g c = λ r w k p e il ol.
    let room : k * 65536 + length c.list_piece.new.buffer ≡ c.args.offset + length c.args.buffer.now = omega (arith, e, c.list_piece.auto.buffer) in
    more_behind _ _ _ r _ _ _ w _ _ k c.in-Ok.n c.list_piece.new.buffer room (omega arith) il ol c.in-Ok.ensures.cause p (rw e at c.in-Ok.ensures.piece) c.in-More.ensures

pub returns-in-Failed : goal.returns-in-Failed
returns-in-Failed g c = λ r w k p e il ol.
    let room : k * 65536 + length c.list_piece.new.buffer ≡ c.args.offset + length c.args.buffer.now = omega (arith, e, c.list_piece.auto.buffer) in
    look_failed _ _ _ r _ _ _ w _ _ k c.in-Ok.n c.list_piece.new.buffer room (omega arith) il ol c.in-Ok.ensures.cause p (rw e at c.in-Ok.ensures.piece) c.in-Failed.ensures
