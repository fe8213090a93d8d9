use Rattle.std.proofs.Common.{◌∙◌, ◌==◌, ◌<◌, ◌++◌, sym, ap, subst, List, length}
use Rattle.std.specs.List.{list_any}
use Rattle.spec_features.specs.Features.{param_limit}
use Rattle.mrs_walk.specs.Here.{spot_of}
use Rattle.mrs_walk.proofs.AnswerLaws.{Puts-exit}
use Rattle.features_reader.specs.declared.features.Param.{Param}
use Rattle.features_reader.specs.FeaturesRead.{texts_of}
use Rattle.features_reader.proofs.ParamReadLaws.{ParamsRead-none, ParamsRead-next, names_read, params_fail}
use Rattle.mrs_names.proofs.PlaceLaws.{IsExtended-refl, IsExtended-trans}
use Rattle.features_reader.proofs.params.read_params.Goals as goal

pub loop-i-init : goal.loop-i-init
loop-i-init c = ParamsRead-none (spot_of c.args.list.now).at c.args.draft.now _ _ c.in_ok-values.values.now c.new-params.ensures.items c.new-constraints.ensures.items

pub returns-in_err-param-clause-walk : goal.returns-in_err-param-clause-walk
returns-in_err-param-clause-walk c =
    let r = c.loop-i.invariant in
    let same = names_read r.read ∙ ap (texts_of c.loop-i.draft.names) (sym c.deref.ensures.value) in
    Puts-exit c.from_residual-in_err-param.result _ _ _ _ _ c.from_residual-in_err-param.ensures.1
    (params_fail _ (spot_of c.args.list.now) c.in_ok-values.ensures r _ c.loop-i-test.true c.index-values-i.is _ c.element.ensures (c.in_err-param.ensures.walk r.found same))

pub loop-i-preserved : goal.loop-i-preserved
loop-i-preserved c =
    let r = c.loop-i.invariant in
    let at = c.deref.ensures.value in
    let same = names_read r.read ∙ ap (texts_of c.loop-i.draft.names) (sym at) in
    let free = ap (λ ps. list_any (λ (p : Param). p.name.0 == c.in_ok-param.param.name.0) ps) (sym at) ∙ c.in_ok-param.ensures.free in
    let room = subst (λ (ps : List Param). length ps < param_limit) at c.in_ok-param.ensures.few in
    ParamsRead-next r _ c.loop-i-test.true c.index-values-i.is _ c.element.ensures c.read_param.new.draft c.in_ok-param.param c.in_ok-param.own.items (c.in_ok-param.ensures.walk r.found same) free room
    c.in_ok-param.ensures.nodes c.in_ok-param.ensures.kept _ c.in_ok-push.ensures.items _ (c.in_ok-extend_from_slice.ensures.items ∙ ap (λ xs. c.loop-i.constraints.items ++ xs) c.deref-in-loop-i.ensures.value)

-- ---- names keep their numbers

pub returns-in_err-values-clause-kept : goal.returns-in_err-values-clause-kept
returns-in_err-values-clause-kept c = IsExtended-refl c.args.draft.now.names

pub returns-in_err-param-clause-kept : goal.returns-in_err-param-clause-kept
returns-in_err-param-clause-kept c = IsExtended-trans c.args.draft.now.names c.loop-i.draft.names c.read_param.new.draft.names c.loop-i.invariant.kept c.in_err-param.ensures.kept

pub returns-in_err-push-clause-kept : goal.returns-in_err-push-clause-kept
returns-in_err-push-clause-kept c = IsExtended-trans c.args.draft.now.names c.loop-i.draft.names c.read_param.new.draft.names c.loop-i.invariant.kept c.in_ok-param.ensures.kept

pub returns-in_err-extend_from_slice-clause-kept : goal.returns-in_err-extend_from_slice-clause-kept
returns-in_err-extend_from_slice-clause-kept c = IsExtended-trans c.args.draft.now.names c.loop-i.draft.names c.read_param.new.draft.names c.loop-i.invariant.kept c.in_ok-param.ensures.kept

pub returns-clause-kept : goal.returns-clause-kept
returns-clause-kept c = c.loop-i.invariant.kept
