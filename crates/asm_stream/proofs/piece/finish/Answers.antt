use Rattle.asm_stream.proofs.PieceLaws.{last_line_from}
use Rattle.asm_stream.proofs.piece.finish.Goals as goal

pub returns-clause-last : goal.returns-clause-last
returns-clause-last g c =
    last_line_from c.args.lister.now c.args.assembly.now (g.K.Sink.writing c.args.out.now) (g.K.Sink.writing c.write_words.new.out) c.push_word-judged.new.words.items _ _ c.deref-2.result.now c.push_word-judged.result c.write_words.result c.deref.ensures.value c.clear.ensures.items c.deref-2.ensures.value c.push_word-judged.ensures c.write_words.ensures.wrote
