use Rattle.std.proofs.Common.{◌∙◌, ap, Err, map}
use Rattle.std.proofs.lemmas.Result.{err_from_is_err_and}
use Rattle.mrs_arena.specs.Placed.{text_of, path_to}
use Rattle.ast_eval.specs.Choices.{configuration_of}
use Rattle.insn_encode.specs.Held.{answer_by, pair_by, node_at}
use Rattle.insn_encode.proofs.EncodingLaws.{refused-is, excluded-is, word-is, exact-word}
use Rattle.insn_encode.proofs.node_encoding.encode_to.Goals as goal

pub returns-in_err-word-clause-answer : goal.returns-in_err-word-clause-answer
returns-in_err-word-clause-answer c = λ names hold held.
    let p = err_from_is_err_and c.from_residual.result c.from_residual.ensures.1 in
    ap (answer_by names) (p.1 ∙ ap Err p.2)
    ∙ refused-is names c.args.arena.now.nodes c.args.n.0 c.args.config.now hold c.args.fields.now c.args.layout.now c.requires.path c.args.pairs.now held c.args.rest c.in_err-word.field-0.0 c.in_err-word.ensures

pub returns-in-Some-clause-answer : goal.returns-in-Some-clause-answer
returns-in-Some-clause-answer c = λ names hold held.
    excluded-is names c.args.arena.now.nodes c.args.n.0 c.args.config.now hold c.args.fields.now c.args.layout.now c.requires.path c.args.pairs.now held c.args.rest c.in_ok-word.word c.in-Some.node c.in_ok-word.ensures (c.in-Some.ensures names hold)

pub returns-in-None-clause-answer : goal.returns-in-None-clause-answer
returns-in-None-clause-answer c = λ names hold held.
    word-is names c.args.arena.now.nodes c.args.n.0 c.args.config.now hold c.args.fields.now c.args.layout.now c.requires.path c.args.pairs.now held c.args.rest c.in_ok-word.word c.in_ok-word.ensures (c.in-None.ensures names hold)

pub returns-in_err-word-clause-word : goal.returns-in_err-word-clause-word
returns-in_err-word-clause-word c = λ names hold held.
    exact-word names (path_to names c.args.arena.now.nodes c.args.n.0) (configuration_of (text_of names) c.args.config.now) (map (pair_by names) c.args.pairs.now) c.args.rest (node_at c.args.arena.now.nodes c.args.n.0) _ (returns-in_err-word-clause-answer c names hold held)
    (c.requires.path.items names) c.ranges.rest.fits

pub returns-in-Some-clause-word : goal.returns-in-Some-clause-word
returns-in-Some-clause-word c = λ names hold held.
    exact-word names (path_to names c.args.arena.now.nodes c.args.n.0) (configuration_of (text_of names) c.args.config.now) (map (pair_by names) c.args.pairs.now) c.args.rest (node_at c.args.arena.now.nodes c.args.n.0) _ (returns-in-Some-clause-answer c names hold held)
    (c.requires.path.items names) c.ranges.rest.fits

pub returns-in-None-clause-word : goal.returns-in-None-clause-word
returns-in-None-clause-word c = λ names hold held.
    exact-word names (path_to names c.args.arena.now.nodes c.args.n.0) (configuration_of (text_of names) c.args.config.now) (map (pair_by names) c.args.pairs.now) c.args.rest (node_at c.args.arena.now.nodes c.args.n.0) _ (returns-in-None-clause-answer c names hold held)
    (c.requires.path.items names) c.ranges.rest.fits
