use Rattle.std.proofs.Common.{◌∙◌, sym, ap}
use Rattle.spec_expressions.specs.Expression.{no_exprs, expr, with_names}
use Rattle.spec_expressions.specs.Value.{implemented}
use Rattle.ast_eval.specs.Choices.{configuration_of}
use Rattle.ast_eval.specs.Worth.{own_text}
use Rattle.ast_eval.proofs.TextLaws.{state_truth-own}
use Rattle.ast_eval.proofs.named.is_implemented.Goals as goal

pub returns-in-Name : goal.returns-in-Name
returns-in-Name c =
    c.state_truth.ensures ∙ state_truth-own c.in-Name.name.0 c.args.config.now
    ∙ ap (λ e. implemented (expr (with_names own_text e) no_exprs) (configuration_of own_text c.args.config.now)) (sym c.in-Name.ensures.layer)
