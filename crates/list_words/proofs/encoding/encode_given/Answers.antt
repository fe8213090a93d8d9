use Rattle.std.proofs.Common.{◌∙◌, sym, ap, subst, arith}
use Rattle.std.specs.Prelude.{unwrap_or}
use Rattle.spec_encoding.specs.Encoding.{encoding}
use Rattle.mrs_arena.specs.Placed.{text_of}
use Rattle.ast_eval.specs.Choices.{configuration_of}
use Rattle.list_words.specs.Encoded.{IsRefusedAt, or_next}
use Rattle.list_words.specs.Ways.{way_by, path_along}
use Rattle.list_words.proofs.EncodeLaws.{answered-same, held_same, all-encoded, next-encoded}
use Rattle.list_words.proofs.encoding.encode_given.Goals as goal

pub returns-then-len-given : goal.returns-then-len-given
returns-then-len-given c = λ fields told visible given.
    let names = c.args.l.now.names.now in
    let tree = c.args.l.now.tree.now in
    let g = configuration_of (text_of names) c.args.l.now.config.now in
    let kept = c.args.given.now.pairs in
    let way = way_by c.args.path in
    all-encoded names fields c.args.given.now told given tree way c.encode-answer.ensures.path g visible c.encode-answer.result
    (answered-same names tree way g c.encode-answer.result c.as_slice.result.now kept c.unwrap_or-rest.result _
    (c.encode-answer.ensures.answer (held_same names c.as_slice.result.now kept c.as_slice.ensures.pairs given.held)) c.as_slice.ensures.pairs c.unwrap_or-rest.ensures)
    (sym c.len.ensures.count ∙ c.if-len-given.true)

pub returns : goal.returns
returns c = λ fields told visible given.
    let names = c.args.l.now.names.now in
    let tree = c.args.l.now.tree.now in
    let g = configuration_of (text_of names) c.args.l.now.config.now in
    let kept = c.args.given.now.pairs in
    let way = way_by c.args.path in
    let refused =
    next-encoded names fields c.args.given.now told given tree way c.encode-answer.ensures.path g visible c.encode-answer.result
    (answered-same names tree way g c.encode-answer.result c.as_slice.result.now kept c.unwrap_or-rest.result _
    (c.encode-answer.ensures.answer (held_same names c.as_slice.result.now kept c.as_slice.ensures.pairs given.held)) c.as_slice.ensures.pairs c.unwrap_or-rest.ensures)
    (omega (arith, given.within, given.count, c.len.ensures.count, c.if-len-given.false)) in
    subst (λ code. IsRefusedAt names tree way code (encoding (path_along names tree way) g told.pairs (unwrap_or told.rest 0))) (sym (c.first_unknown.ensures ∙ ap (or_next c.encode-answer.result) c.len-2.ensures.count)) refused
