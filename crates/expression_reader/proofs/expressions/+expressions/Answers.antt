use Rattle.std.proofs.Common.{◌+◌, ◌∙◌, sym, ap, subst, arith, ℕ, ◌<◌, List, length, map, All}
use Rattle.std.proofs.lemmas.List.{map_push}
use Rattle.serde_json.specs.Data.{depth}
use Rattle.spec_expressions.specs.Shape.{ANot, ABinary, ACall, ASet, AJoin, AnIndex, ASlice}
use Rattle.mrs_arena.specs.Expressions.{op_of, function_by}
use Rattle.mrs_arena.specs.Placed.{text_of}
use Rattle.mrs_arena.specs.declared.expr_id.ExprId.{ExprId}
use Rattle.mrs_walk.specs.Here.{spot_of}
use Rattle.mrs_walk.proofs.AnswerLaws.{Puts-exit}
use Rattle.mrs_names.specs.Texts.{IsExtended}
use Rattle.mrs_names.proofs.PlaceLaws.{IsExtended-refl, IsExtended-trans}
use Rattle.mrs_walk.proofs.DepthLaws.{needed_shallower, element_shallower}
use Rattle.expression_reader.proofs.ExprsLaws.{formed_returns, not_returns, binary_returns, call_returns, set_returns, join_returns, argument_here, argument_shallower, index_returns, index_fails, slice_returns, high_fails, low_fails, PartsRead, PartsRead-next, parts_fail, list_returns, All-numbers}
use Rattle.expression_reader.proofs.expressions.+expressions.Goals as goal

-- ---- an expression by its shape

pub read_expression-returns-in-Not-clause-walk : goal.read_expression-returns-in-Not-clause-walk
read_expression-returns-in-Not-clause-walk t c = formed_returns c.read_not.result (spot_of c.args.here.now) ANot _ _ _ c.in_ok-object.ensures c.in-Not.ensures.shape c.read_not.ensures.walk

pub read_expression-returns-in-Binary-clause-walk : goal.read_expression-returns-in-Binary-clause-walk
read_expression-returns-in-Binary-clause-walk t c = formed_returns c.read_binary.result (spot_of c.args.here.now) (ABinary (op_of c.in-Binary.op)) _ _ _ c.in_ok-object.ensures c.in-Binary.ensures.shape c.read_binary.ensures.walk

pub read_expression-returns-in-Call-clause-walk : goal.read_expression-returns-in-Call-clause-walk
read_expression-returns-in-Call-clause-walk t c = formed_returns c.read_call.result (spot_of c.args.here.now) (ACall c.in-Call.name.now) _ _ _ c.in_ok-object.ensures c.in-Call.ensures.shape c.read_call.ensures.walk

pub read_expression-returns-in-Set-clause-walk : goal.read_expression-returns-in-Set-clause-walk
read_expression-returns-in-Set-clause-walk t c = formed_returns c.read_set_expression.result (spot_of c.args.here.now) ASet _ _ _ c.in_ok-object.ensures c.in-Set.ensures.shape c.read_set_expression.ensures.walk

pub read_expression-returns-in-Join-clause-walk : goal.read_expression-returns-in-Join-clause-walk
read_expression-returns-in-Join-clause-walk t c = formed_returns c.read_join.result (spot_of c.args.here.now) AJoin _ _ _ c.in_ok-object.ensures c.in-Join.ensures.shape c.read_join.ensures.walk

pub read_expression-returns-in-Index-clause-walk : goal.read_expression-returns-in-Index-clause-walk
read_expression-returns-in-Index-clause-walk t c = formed_returns c.read_index.result (spot_of c.args.here.now) AnIndex _ _ _ c.in_ok-object.ensures c.in-Index.ensures.shape c.read_index.ensures.walk

pub read_expression-returns-in-Slice-clause-walk : goal.read_expression-returns-in-Slice-clause-walk
read_expression-returns-in-Slice-clause-walk t c = formed_returns c.read_slice.result (spot_of c.args.here.now) ASlice _ _ _ c.in_ok-object.ensures c.in-Slice.ensures.shape c.read_slice.ensures.walk

-- ---- each shape

pub read_not-returns-clause-walk : goal.read_not-returns-clause-walk
read_not-returns-clause-walk t c = not_returns c.expr.result (λ id. id.0) (spot_of c.args.here.now) c.args.draft.now c.read_part.new.draft c.expr.new.self c.in_ok-part.part.0 c.in_ok-part.ensures.walk c.expr.ensures.parts c.expr.ensures.steps

pub read_binary-returns-clause-walk : goal.read_binary-returns-clause-walk
read_binary-returns-clause-walk t c =
    binary_returns c.expr.result (λ id. id.0) (spot_of c.args.here.now) (op_of c.args.op) c.args.draft.now c.read_part.new.draft c.read_part-2.new.draft c.expr.new.self c.in_ok-left.left.0 c.in_ok-right.right.0
    c.in_ok-left.ensures.walk c.in_ok-right.ensures.walk c.expr.ensures.parts c.expr.ensures.steps

pub read_call-returns-clause-walk : goal.read_call-returns-clause-walk
read_call-returns-clause-walk t c =
    let f = c.in_ok-function.ensures.walk in
    call_returns c.expr.result (λ id. id.0) (spot_of c.args.here.now) c.args.name.now c.args.draft.now c.read_list.new.draft c.read_function.new.draft c.expr.new.self c.in_ok-arguments.arguments f.value
    (function_by (text_of c.read_function.new.draft.names) c.in_ok-function.function) c.in_ok-arguments.ensures.walk f.walked f.stands.0 c.in_ok-function.ensures.exprs c.in_ok-function.ensures.parts c.expr.ensures.parts c.expr.ensures.steps

pub read_set_expression-returns-clause-walk : goal.read_set_expression-returns-clause-walk
read_set_expression-returns-clause-walk t c = set_returns c.expr.result (λ id. id.0) (spot_of c.args.here.now) c.args.draft.now c.read_list.new.draft c.expr.new.self c.in_ok-members.members c.in_ok-members.ensures.walk c.expr.ensures.parts c.expr.ensures.steps

pub read_join-returns-clause-walk : goal.read_join-returns-clause-walk
read_join-returns-clause-walk t c = join_returns c.expr.result (λ id. id.0) (spot_of c.args.here.now) c.args.draft.now c.read_list.new.draft c.expr.new.self c.in_ok-parts.parts c.in_ok-parts.ensures.walk c.expr.ensures.parts c.expr.ensures.steps

-- ---- square operators

pub read_index-read_expression-requires : goal.read_index-read_expression-requires
read_index-read_expression-requires t c = (omega (arith, c.decreases, argument_shallower (spot_of c.args.here.now) c.args.argument.now c.requires, ap (λ s. depth s.value) c.element.ensures), tt)

pub read_index-returns-in_err-bit-clause-walk : goal.read_index-returns-in_err-bit-clause-walk
read_index-returns-in_err-bit-clause-walk t c =
    let here = spot_of c.args.here.now in
    let place = argument_here here (spot_of c.in_ok-list.list) c.args.argument.now c.requires c.in_ok-list.ensures (spot_of c.element.result) c.element.ensures in
    Puts-exit c.from_residual-in_err-bit.result _ _ _ _ _ c.from_residual-in_err-bit.ensures.1
    (index_fails _ here c.args.argument.now c.args.draft.now c.read_part.new.draft c.in_ok-bits.bits.0 c.requires (spot_of c.element.result) place c.in_ok-bits.ensures.walk c.in_err-bit.ensures.walk)

pub read_index-returns-clause-walk : goal.read_index-returns-clause-walk
read_index-returns-clause-walk t c =
    let here = spot_of c.args.here.now in
    let place = argument_here here (spot_of c.in_ok-list.list) c.args.argument.now c.requires c.in_ok-list.ensures (spot_of c.element.result) c.element.ensures in
    index_returns c.expr.result (λ id. id.0) here c.args.argument.now c.args.draft.now c.read_part.new.draft c.read_expression.new.draft c.expr.new.self c.in_ok-bits.bits.0 c.in_ok-bit.bit.0 c.requires (spot_of c.element.result) place
    c.in_ok-bits.ensures.walk c.in_ok-bit.ensures.walk c.expr.ensures.parts c.expr.ensures.steps

pub read_slice-read_part-requires-2 : goal.read_slice-read_part-requires-2
read_slice-read_part-requires-2 t c = (omega (arith, c.decreases, argument_shallower (spot_of c.args.here.now) c.args.argument.now c.requires, ap (λ s. depth s.value) c.element-ends.ensures), tt)

pub read_slice-read_part-requires-3 : goal.read_slice-read_part-requires-3
read_slice-read_part-requires-3 t c = (omega (arith, c.decreases, argument_shallower (spot_of c.args.here.now) c.args.argument.now c.requires, ap (λ s. depth s.value) c.element-ends.ensures), tt)

pub read_slice-returns-in_err-high-clause-walk : goal.read_slice-returns-in_err-high-clause-walk
read_slice-returns-in_err-high-clause-walk t c =
    let here = spot_of c.args.here.now in
    let place = argument_here here (spot_of c.in_ok-list.list) c.args.argument.now c.requires c.in_ok-list.ensures (spot_of c.element-ends.result) c.element-ends.ensures in
    Puts-exit c.from_residual-in_err-high.result _ _ _ _ _ c.from_residual-in_err-high.ensures.1
    (high_fails _ here c.args.argument.now c.args.draft.now c.read_part.new.draft c.in_ok-bits.bits.0 c.requires (spot_of c.element-ends.result) place c.in_ok-bits.ensures.walk c.in_err-high.ensures.walk)

pub read_slice-returns-in_err-low-clause-walk : goal.read_slice-returns-in_err-low-clause-walk
read_slice-returns-in_err-low-clause-walk t c =
    let here = spot_of c.args.here.now in
    let place = argument_here here (spot_of c.in_ok-list.list) c.args.argument.now c.requires c.in_ok-list.ensures (spot_of c.element-ends.result) c.element-ends.ensures in
    Puts-exit c.from_residual-in_err-low.result _ _ _ _ _ c.from_residual-in_err-low.ensures.1
    (low_fails _ here c.args.argument.now c.args.draft.now c.read_part.new.draft c.read_part-2.new.draft c.in_ok-bits.bits.0 c.in_ok-high.high.0 c.requires (spot_of c.element-ends.result) place
    c.in_ok-bits.ensures.walk c.in_ok-high.ensures.walk c.in_err-low.ensures.walk)

pub read_slice-returns-clause-walk : goal.read_slice-returns-clause-walk
read_slice-returns-clause-walk t c =
    let here = spot_of c.args.here.now in
    let place = argument_here here (spot_of c.in_ok-list.list) c.args.argument.now c.requires c.in_ok-list.ensures (spot_of c.element-ends.result) c.element-ends.ensures in
    slice_returns c.expr.result (λ id. id.0) here c.args.argument.now c.args.draft.now c.read_part.new.draft c.read_part-2.new.draft c.read_part-3.new.draft c.expr.new.self c.in_ok-bits.bits.0 c.in_ok-high.high.0 c.in_ok-low.low.0 c.requires (spot_of c.element-ends.result) place
    c.in_ok-bits.ensures.walk c.in_ok-high.ensures.walk c.in_ok-low.ensures.walk c.expr.ensures.parts c.expr.ensures.steps

-- ---- a part, and a list of parts

pub read_part-read_expression-requires : goal.read_part-read_expression-requires
read_part-read_expression-requires t c = (omega (arith, needed_shallower c.args.key.now (spot_of c.args.here.now) (spot_of c.in_ok-part.part) c.in_ok-part.ensures), tt)

pub read_list-read_expression-requires : goal.read_list-read_expression-requires
read_list-read_expression-requires t c = (
  omega (
    arith,
    needed_shallower c.args.key.now (spot_of c.args.here.now) (spot_of c.in_ok-list.list) c.in_ok-list.ensures,
    element_shallower (spot_of c.in_ok-list.list) (spot_of c.element.result) _ c.loop-i.i _ c.in_ok-values.ensures c.loop-i-test.true c.index-values-i.is (ap (λ s. s.value) c.element.ensures),
  ),
  tt,
)

pub read_list-returns-in_err-id-clause-walk : goal.read_list-returns-in_err-id-clause-walk
read_list-returns-in_err-id-clause-walk t c =
    Puts-exit c.from_residual-in_err-id.result _ _ _ _ _ c.from_residual-in_err-id.ensures.1
    (parts_fail _ c.args.key.now (spot_of c.args.here.now) (spot_of c.in_ok-list.list) c.in_ok-list.ensures c.in_ok-values.ensures c.loop-i.invariant _ c.loop-i-test.true c.index-values-i.is _ c.element.ensures c.in_err-id.ensures.walk)

pub read_list-loop-i-preserved : goal.read_list-loop-i-preserved
read_list-loop-i-preserved t c =
    let next = PartsRead-next c.loop-i.invariant _ c.loop-i-test.true c.index-values-i.is _ c.element.ensures c.read_expression.new.draft c.in_ok-id.id.0 c.in_ok-id.ensures.walk c.in_ok-id.ensures.nodes c.in_ok-id.ensures.kept in
    subst (λ (ks : List ℕ). PartsRead (spot_of c.in_ok-list.list).at c.args.draft.now c.read_expression.new.draft ks (c.loop-i.i + 1) c.in_ok-values.values.now)
    (sym (ap (map (λ (id : ExprId). id.0)) c.in_ok-push.ensures.items ∙ map_push (λ (id : ExprId). id.0) c.loop-i.ids.items c.in_ok-id.id)) next

pub read_list-list-requires-clause-parts : goal.read_list-list-requires-clause-parts
read_list-list-requires-clause-parts t c = subst (λ (ids : List ExprId). All (λ part. part.0 < length c.loop-i.draft.exprs) ids) (sym c.deref.ensures.value) (All-numbers (length c.loop-i.draft.exprs) c.loop-i.ids.items c.loop-i.invariant.read.within)

pub read_list-returns-clause-walk : goal.read_list-returns-clause-walk
read_list-returns-clause-walk t c =
    list_returns c.list.result c.args.key.now (spot_of c.args.here.now) (spot_of c.in_ok-list.list) c.args.draft.now c.loop-i.draft c.list.new.self c.deref.result.now c.loop-i.ids.items c.loop-i.i c.in_ok-values.values.now
    c.in_ok-list.ensures c.in_ok-values.ensures c.loop-i.invariant c.loop-i-test.false c.deref.ensures.value c.list.ensures.exprs c.list.ensures.steps

-- ---- names keep their numbers

pub read_not-returns-in_err-part-clause-kept : goal.read_not-returns-in_err-part-clause-kept
read_not-returns-in_err-part-clause-kept t c = c.in_err-part.ensures.kept

pub read_not-returns-clause-kept : goal.read_not-returns-clause-kept
read_not-returns-clause-kept t c = subst (IsExtended c.args.draft.now.names) (sym c.expr.ensures.names) c.in_ok-part.ensures.kept

pub read_set_expression-returns-in_err-members-clause-kept : goal.read_set_expression-returns-in_err-members-clause-kept
read_set_expression-returns-in_err-members-clause-kept t c = c.in_err-members.ensures.kept

pub read_set_expression-returns-clause-kept : goal.read_set_expression-returns-clause-kept
read_set_expression-returns-clause-kept t c = subst (IsExtended c.args.draft.now.names) (sym c.expr.ensures.names) c.in_ok-members.ensures.kept

pub read_join-returns-in_err-parts-clause-kept : goal.read_join-returns-in_err-parts-clause-kept
read_join-returns-in_err-parts-clause-kept t c = c.in_err-parts.ensures.kept

pub read_join-returns-clause-kept : goal.read_join-returns-clause-kept
read_join-returns-clause-kept t c = subst (IsExtended c.args.draft.now.names) (sym c.expr.ensures.names) c.in_ok-parts.ensures.kept

pub read_binary-returns-in_err-left-clause-kept : goal.read_binary-returns-in_err-left-clause-kept
read_binary-returns-in_err-left-clause-kept t c = c.in_err-left.ensures.kept

pub read_binary-returns-in_err-right-clause-kept : goal.read_binary-returns-in_err-right-clause-kept
read_binary-returns-in_err-right-clause-kept t c = IsExtended-trans c.args.draft.now.names c.read_part.new.draft.names c.read_part-2.new.draft.names c.in_ok-left.ensures.kept c.in_err-right.ensures.kept

pub read_binary-returns-clause-kept : goal.read_binary-returns-clause-kept
read_binary-returns-clause-kept t c = subst (IsExtended c.args.draft.now.names) (sym c.expr.ensures.names) (IsExtended-trans c.args.draft.now.names c.read_part.new.draft.names c.read_part-2.new.draft.names c.in_ok-left.ensures.kept c.in_ok-right.ensures.kept)

pub read_call-returns-in_err-arguments-clause-kept : goal.read_call-returns-in_err-arguments-clause-kept
read_call-returns-in_err-arguments-clause-kept t c = c.in_err-arguments.ensures.kept

pub read_call-returns-in_err-function-clause-kept : goal.read_call-returns-in_err-function-clause-kept
read_call-returns-in_err-function-clause-kept t c = IsExtended-trans c.args.draft.now.names c.read_list.new.draft.names c.read_function.new.draft.names c.in_ok-arguments.ensures.kept c.in_err-function.ensures.kept

pub read_call-returns-clause-kept : goal.read_call-returns-clause-kept
read_call-returns-clause-kept t c = subst (IsExtended c.args.draft.now.names) (sym c.expr.ensures.names) (IsExtended-trans c.args.draft.now.names c.read_list.new.draft.names c.read_function.new.draft.names c.in_ok-arguments.ensures.kept c.in_ok-function.ensures.kept)

pub read_index-returns-in_err-bits-clause-kept : goal.read_index-returns-in_err-bits-clause-kept
read_index-returns-in_err-bits-clause-kept t c = c.in_err-bits.ensures.kept

pub read_index-returns-in_err-list-clause-kept : goal.read_index-returns-in_err-list-clause-kept
read_index-returns-in_err-list-clause-kept t c = c.in_ok-bits.ensures.kept

pub read_index-returns-in_err-bit-clause-kept : goal.read_index-returns-in_err-bit-clause-kept
read_index-returns-in_err-bit-clause-kept t c = IsExtended-trans c.args.draft.now.names c.read_part.new.draft.names c.read_expression.new.draft.names c.in_ok-bits.ensures.kept c.in_err-bit.ensures.kept

pub read_index-returns-clause-kept : goal.read_index-returns-clause-kept
read_index-returns-clause-kept t c = subst (IsExtended c.args.draft.now.names) (sym c.expr.ensures.names) (IsExtended-trans c.args.draft.now.names c.read_part.new.draft.names c.read_expression.new.draft.names c.in_ok-bits.ensures.kept c.in_ok-bit.ensures.kept)

pub read_slice-returns-in_err-bits-clause-kept : goal.read_slice-returns-in_err-bits-clause-kept
read_slice-returns-in_err-bits-clause-kept t c = c.in_err-bits.ensures.kept

pub read_slice-returns-in_err-list-clause-kept : goal.read_slice-returns-in_err-list-clause-kept
read_slice-returns-in_err-list-clause-kept t c = c.in_ok-bits.ensures.kept

pub read_slice-returns-in_err-high-clause-kept : goal.read_slice-returns-in_err-high-clause-kept
read_slice-returns-in_err-high-clause-kept t c = IsExtended-trans c.args.draft.now.names c.read_part.new.draft.names c.read_part-2.new.draft.names c.in_ok-bits.ensures.kept c.in_err-high.ensures.kept

pub read_slice-returns-in_err-low-clause-kept : goal.read_slice-returns-in_err-low-clause-kept
read_slice-returns-in_err-low-clause-kept t c = IsExtended-trans c.args.draft.now.names c.read_part-2.new.draft.names c.read_part-3.new.draft.names (IsExtended-trans c.args.draft.now.names c.read_part.new.draft.names c.read_part-2.new.draft.names c.in_ok-bits.ensures.kept c.in_ok-high.ensures.kept) c.in_err-low.ensures.kept

pub read_slice-returns-clause-kept : goal.read_slice-returns-clause-kept
read_slice-returns-clause-kept t c = subst (IsExtended c.args.draft.now.names) (sym c.expr.ensures.names) (IsExtended-trans c.args.draft.now.names c.read_part-2.new.draft.names c.read_part-3.new.draft.names (IsExtended-trans c.args.draft.now.names c.read_part.new.draft.names c.read_part-2.new.draft.names c.in_ok-bits.ensures.kept c.in_ok-high.ensures.kept) c.in_ok-low.ensures.kept)

pub read_part-returns-in_err-part-clause-kept : goal.read_part-returns-in_err-part-clause-kept
read_part-returns-in_err-part-clause-kept t c = IsExtended-refl c.args.draft.now.names

pub read_part-returns-clause-kept : goal.read_part-returns-clause-kept
read_part-returns-clause-kept t c = c.read_expression.ensures.kept

pub read_list-returns-in_err-list-clause-kept : goal.read_list-returns-in_err-list-clause-kept
read_list-returns-in_err-list-clause-kept t c = IsExtended-refl c.args.draft.now.names

pub read_list-returns-in_err-values-clause-kept : goal.read_list-returns-in_err-values-clause-kept
read_list-returns-in_err-values-clause-kept t c = IsExtended-refl c.args.draft.now.names

pub read_list-returns-in_err-id-clause-kept : goal.read_list-returns-in_err-id-clause-kept
read_list-returns-in_err-id-clause-kept t c = IsExtended-trans c.args.draft.now.names c.loop-i.draft.names c.read_expression.new.draft.names c.loop-i.invariant.kept c.in_err-id.ensures.kept

pub read_list-returns-in_err-push-clause-kept : goal.read_list-returns-in_err-push-clause-kept
read_list-returns-in_err-push-clause-kept t c = IsExtended-trans c.args.draft.now.names c.loop-i.draft.names c.read_expression.new.draft.names c.loop-i.invariant.kept c.in_ok-id.ensures.kept

pub read_list-returns-clause-kept : goal.read_list-returns-clause-kept
read_list-returns-clause-kept t c = subst (IsExtended c.args.draft.now.names) (sym c.list.ensures.names) c.loop-i.invariant.kept
