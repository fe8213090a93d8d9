use Rattle.std.proofs.Common.{◌∙◌, sym}
use Rattle.mrs_arena.specs.Expressions.{expr_at}
use Rattle.ast_eval.proofs.SameLaws.{value_by-held}
use Rattle.ast_eval.proofs.worth.eval.Goals as goal

pub returns-clause-named : goal.returns-clause-named
returns-clause-named c names held = c.evaluate.ensures ∙ sym (value_by-held names held.distinct (expr_at c.args.arena.now.exprs c.args.e.0) c.args.config.now c.args.env.now c.args.w held)
