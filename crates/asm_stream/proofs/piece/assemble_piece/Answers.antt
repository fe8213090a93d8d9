use Rattle.std.proofs.Common.{◌≡◌, ◌≤◌, refl, length, take, length-take, arith}
use Rattle.std.proofs.lemmas.Result.{err_from_is_err_and}
use Rattle.asm_stream.proofs.PieceLaws.{piece_stopped_from, piece_taken_from, wrote_cause}
use Rattle.asm_stream.proofs.piece.assemble_piece.Goals as goal

pub returns-in_err-write_words-clause-piece : goal.returns-in_err-write_words-clause-piece
returns-in_err-write_words-clause-piece g c =
    let p = err_from_is_err_and c.from_residual.result c.from_residual.ensures.1 in
    let size : length (take c.in-Ok.n c.fill.new.buf) ≡ c.in-Ok.n = omega (arith, length-take c.in-Ok.n c.fill.new.buf, c.in-Ok.ensures.bound) in
    rw (p.1, p.2)
    (piece_stopped_from c.args.lister.now c.args.assembly.now (record { number = c.args.assembly.now.number; left = c.args.assembly.now.left; words = c.clear.new.self }) c.take_bytes-judged.new.assembly (length c.fill.new.buf) (g.S.Source.reading c.args.input.now) (g.S.Source.reading c.fill.new.source) (g.K.Sink.writing c.args.out.now) (g.K.Sink.writing c.write_words.new.out)
    c.fill.new.buf c.in-Ok.n refl refl c.clear.ensures.items (omega (arith, c.in-Ok.ensures.bound)) size c.in-Ok.ensures.bytes c.deref.result.now c.take_bytes-judged.result c.in_err-write_words.field-0.0 c.deref.ensures.value c.take_bytes-judged.ensures c.in_err-write_words.ensures.wrote)

pub returns-clause-piece : goal.returns-clause-piece
returns-clause-piece g c =
    let size : length (take c.in-Ok.n c.fill.new.buf) ≡ c.in-Ok.n = omega (arith, length-take c.in-Ok.n c.fill.new.buf, c.in-Ok.ensures.bound) in
    piece_taken_from c.args.lister.now c.args.assembly.now (record { number = c.args.assembly.now.number; left = c.args.assembly.now.left; words = c.clear.new.self }) c.take_bytes-judged.new.assembly (length c.fill.new.buf) (g.S.Source.reading c.args.input.now) (g.S.Source.reading c.fill.new.source) (g.K.Sink.writing c.args.out.now) (g.K.Sink.writing c.write_words.new.out)
    c.fill.new.buf c.in-Ok.n refl refl c.clear.ensures.items (omega (arith, c.in-Ok.ensures.bound)) size c.in-Ok.ensures.bytes c.deref.result.now c.take_bytes-judged.result c.in_ok-write_words.field-0 c.deref.ensures.value c.in-Ok.ensures.end c.take_bytes-judged.ensures c.in_ok-write_words.ensures.wrote
