use Rattle.std.proofs.Common.{◌+◌, ◌∙◌, sym, ap, subst, ℕ, List, map}
use Rattle.std.proofs.lemmas.List.{map_push}
use Rattle.mrs_arena.specs.declared.expr_id.ExprId.{ExprId}
use Rattle.mrs_walk.specs.Here.{spot_of}
use Rattle.mrs_walk.proofs.AnswerLaws.{Puts-exit}
use Rattle.expression_reader.proofs.ExprsLaws.{PartsRead, PartsRead-next}
use Rattle.features_reader.proofs.ConstraintLaws.{constraints_fail}
use Rattle.mrs_names.proofs.PlaceLaws.{IsExtended-refl, IsExtended-trans}
use Rattle.features_reader.proofs.constraints.read_constraints.Goals as goal

pub returns-in_err-id-clause-walk : goal.returns-in_err-id-clause-walk
returns-in_err-id-clause-walk c =
    Puts-exit c.from_residual-in_err-id.result _ _ _ _ _ c.from_residual-in_err-id.ensures.1
    (constraints_fail _ (spot_of c.args.list.now) c.in_ok-values.ensures c.loop-i.invariant _ c.loop-i-test.true c.index-values-i.is _ c.element.ensures c.in_err-id.ensures.walk)

pub loop-i-preserved : goal.loop-i-preserved
loop-i-preserved c =
    let next = PartsRead-next c.loop-i.invariant _ c.loop-i-test.true c.index-values-i.is _ c.element.ensures c.read_expression.new.draft c.in_ok-id.id.0 c.in_ok-id.ensures.walk c.in_ok-id.ensures.nodes c.in_ok-id.ensures.kept in
    subst (λ (ks : List ℕ). PartsRead (spot_of c.args.list.now).at c.args.draft.now c.read_expression.new.draft ks (c.loop-i.i + 1) c.in_ok-values.values.now)
    (sym (ap (map (λ (id : ExprId). id.0)) c.in_ok-push.ensures.items ∙ map_push (λ (id : ExprId). id.0) c.loop-i.ids.items c.in_ok-id.id)) next

-- ---- names keep their numbers

pub returns-in_err-values-clause-kept : goal.returns-in_err-values-clause-kept
returns-in_err-values-clause-kept c = IsExtended-refl c.args.draft.now.names

pub returns-in_err-id-clause-kept : goal.returns-in_err-id-clause-kept
returns-in_err-id-clause-kept c = IsExtended-trans c.args.draft.now.names c.loop-i.draft.names c.read_expression.new.draft.names c.loop-i.invariant.kept c.in_err-id.ensures.kept

pub returns-in_err-push-clause-kept : goal.returns-in_err-push-clause-kept
returns-in_err-push-clause-kept c = IsExtended-trans c.args.draft.now.names c.loop-i.draft.names c.read_expression.new.draft.names c.loop-i.invariant.kept c.in_ok-id.ensures.kept

pub returns-clause-kept : goal.returns-clause-kept
returns-clause-kept c = c.loop-i.invariant.kept
