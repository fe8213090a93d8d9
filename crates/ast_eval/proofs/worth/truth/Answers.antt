use Rattle.std.proofs.Common.{◌∙◌, sym, ap}
use Rattle.spec_expressions.specs.Operations.{as_truth}
use Rattle.ast_eval.specs.Worth.{truth_by, own_text, condition_at}
use Rattle.ast_eval.proofs.SameLaws.{truth_by-held}
use Rattle.ast_eval.proofs.worth.truth.Goals as goal

pub returns-in-Some-clause-named : goal.returns-in-Some-clause-named
returns-in-Some-clause-named c names held =
    c.truth.ensures ∙ ap as_truth c.evaluate.ensures
    ∙ ap (λ e. truth_by own_text (condition_at c.args.arena.now.exprs e) c.args.config.now c.args.env.now c.args.w) (sym c.in-Some.is)
    ∙ sym (truth_by-held names held.distinct (condition_at c.args.arena.now.exprs c.args.e) c.args.config.now c.args.env.now c.args.w held)
