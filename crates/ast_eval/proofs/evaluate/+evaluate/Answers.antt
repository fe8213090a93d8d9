use Rattle.std.proofs.Common.{◌∙◌, sym, ap}
use Rattle.mrs_arena.specs.declared.expr_id.ExprId.{ExprId}
use Rattle.ast_eval.specs.Views.{truth_of, value_of}
use Rattle.ast_eval.specs.Worth.{value_by, own_text}
use Rattle.ast_eval.proofs.PartLaws.{many_arguments, among-next}
use Rattle.ast_eval.proofs.evaluate.+evaluate.Goals as goal

pub evaluate-returns-in_default-2 : goal.evaluate-returns-in_default-2
evaluate-returns-in_default-2 t c =
    many_arguments c.args.arena.now.exprs c.args.config.now c.args.env.now c.args.w c.in-Call.func c.in-Call.args.now c.in_default.len_at_least
    ∙ ap (λ e. value_by own_text e c.args.config.now c.args.env.now c.args.w) (sym c.in-Call.ensures.layer)

pub member-loop-part-preserved : goal.member-loop-part-preserved
member-loop-part-preserved t c =
    let none : ExprId = record { 0 = 0 } in
    among-next c.args.arena.now.exprs c.args.config.now c.args.env.now c.args.w (value_of c.args.left) (value_of c.evaluate.result) (truth_of c.loop-part.is_among) (truth_of c.equal.result) (truth_of c.or-is_among.result)
    c.in-Set.parts.now c.loop-part.part-index none c.loop-part-test.true c.evaluate.ensures c.equal.ensures c.or-is_among.ensures
    ∙ c.loop-part.invariant
