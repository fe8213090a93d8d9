use Rattle.std.proofs.Common.{◌∙◌, sym, ap, subst, Err}
use Rattle.std.proofs.lemmas.Result.{err_from_is_err_and}
use Rattle.spec_lines.specs.Given as spec
use Rattle.list_words.specs.Scans.{token_of}
use Rattle.list_words.specs.Givens.{Puts}
use Rattle.list_words.proofs.GivenLaws.{refused_is}
use Rattle.list_words.proofs.given.read_given.Goals as goal

pub loop-token-init : goal.loop-token-init
loop-token-init c = record {
  given = spec.nothing;
  given_is = c.requires.nothing;
  left_is = ap (spec.given_behind spec.nothing) c.into_iter-token-iterator.ensures.into_iter_gives;
}

pub returns-in_err-put : goal.returns-in_err-put
returns-in_err-put c =
    let p = err_from_is_err_and c.from_residual.result c.from_residual.ensures.1 in
    let so_far = c.loop-token.invariant in
    subst (λ r. Puts c.args.names.now c.args.fields.now c.put.new.self r (spec.given_behind spec.nothing c.args.tokens)) (sym (p.1 ∙ ap Err p.2))
    (λ tree. refused_is c.args.names.now tree c.in_err-put.field-0.0 so_far.given (token_of c.in-Some.token) c.next.new.self c.loop-token.token-iterator c.args.tokens (c.in_err-put.ensures so_far.given so_far.given_is tree) c.in-Some.ensures.steps so_far.left_is)
