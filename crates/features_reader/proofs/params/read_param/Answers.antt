use Rattle.std.proofs.Common.{◌∙◌, ap, bytes_eq}
use Rattle.std.specs.List.{list_any}
use Rattle.mrs_walk.specs.Here.{spot_of}
use Rattle.mrs_walk.proofs.AnswerLaws.{Puts-exit}
use Rattle.schema_draft.specs.Drafted.{counts}
use Rattle.expression_reader.proofs.ExprsLaws.{named_value}
use Rattle.features_reader.proofs.ParamReadLaws.{free_number, kept_texts, param_fails, param_returns}
use Rattle.mrs_names.proofs.PlaceLaws.{IsExtended-refl, IsExtended-trans}
use Rattle.features_reader.proofs.params.read_param.Goals as goal

pub returns-in_err-own-clause-walk : goal.returns-in_err-own-clause-walk
returns-in_err-own-clause-walk c before same =
    Puts-exit c.from_residual-in_err-own.result _ _ _ _ _ c.from_residual-in_err-own.ensures.1
    (param_fails _ {old = c.args.draft.now} {mid = c.name.new.self} (record { same = same; kind_is = c.in_ok-kind.ensures; name_is = c.in_ok-text.ensures.walk before same; room = c.in_ok-check_room.ensures.walk; put = c.in_ok-name.ensures.steps }) c.in_err-own.ensures.walk)

pub returns-clause-walk : goal.returns-clause-walk
returns-clause-walk c before same =
    param_returns {old = c.args.draft.now} {mid = c.name.new.self} (record { name = c.in_ok-name.name; kind = c.in_ok-kind.kind }) c.in_ok-own.own.items
    (record { same = same; kind_is = c.in_ok-kind.ensures; name_is = c.in_ok-text.ensures.walk before same; room = c.in_ok-check_room.ensures.walk; put = c.in_ok-name.ensures.steps })
    c.in_ok-name.ensures.exprs c.in_ok-name.ensures.parts c.in_ok-own.ensures.kept c.in_ok-own.ensures.walk

pub returns-clause-free : goal.returns-clause-free
returns-clause-free c =
    let params = c.args.params.now in
    let text = c.in_ok-text.text.now in
    let put = c.in_ok-name.ensures.steps in
    free_number c.name.new.self.names params c.in_ok-name.name.0 text
    (put.stands.1 ∙ named_value (spot_of c.args.here.now) text put.value (counts c.args.draft.now) (counts c.name.new.self) put.walked)
    (ap (list_any (λ name. bytes_eq name text)) (kept_texts c.in_ok-name.ensures.kept params c.requires) ∙ c.in_ok-text.ensures.free)

-- ---- names keep their numbers

pub returns-in_err-kind-clause-kept : goal.returns-in_err-kind-clause-kept
returns-in_err-kind-clause-kept c = IsExtended-refl c.args.draft.now.names

pub returns-in_err-text-clause-kept : goal.returns-in_err-text-clause-kept
returns-in_err-text-clause-kept c = IsExtended-refl c.args.draft.now.names

pub returns-in_err-name-clause-kept : goal.returns-in_err-name-clause-kept
returns-in_err-name-clause-kept c = c.in_err-name.ensures.kept

pub returns-in_err-check_room-clause-kept : goal.returns-in_err-check_room-clause-kept
returns-in_err-check_room-clause-kept c = c.in_ok-name.ensures.kept

pub returns-in_err-own-clause-kept : goal.returns-in_err-own-clause-kept
returns-in_err-own-clause-kept c = IsExtended-trans c.args.draft.now.names c.name.new.self.names c.read_constraints_of.new.draft.names c.in_ok-name.ensures.kept c.in_err-own.ensures.kept

pub returns-clause-kept : goal.returns-clause-kept
returns-clause-kept c = IsExtended-trans c.args.draft.now.names c.name.new.self.names c.read_constraints_of.new.draft.names c.in_ok-name.ensures.kept c.in_ok-own.ensures.kept
