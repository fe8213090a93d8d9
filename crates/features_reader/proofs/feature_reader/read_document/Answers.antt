use Rattle.std.proofs.Common.{◌∙◌, ◌++◌, ap}
use Rattle.mrs_walk.specs.Here.{spot_of}
use Rattle.features_reader.proofs.FeatureLaws.{document_returns}
use Rattle.mrs_names.proofs.PlaceLaws.{IsExtended-refl, IsExtended-trans}
use Rattle.features_reader.proofs.feature_reader.read_document.Goals as goal

pub returns-clause-walk : goal.returns-clause-walk
returns-clause-walk c =
    document_returns (spot_of c.args.here.now) (spot_of c.in_ok-list.list) {old = c.args.draft.now} {mid = c.read_params.new.draft} c.in_ok-own.own.items _ c.in_ok-object.ensures c.in_ok-list.ensures
    c.in_ok-params.ensures.walk c.in_ok-own.ensures.walk c.in_ok-own.ensures.kept
    (c.in_ok-extend_from_slice.ensures.items ∙ ap (λ xs. c.in_ok-params.constraints.items ++ xs) c.deref.ensures.value)

-- ---- names keep their numbers

pub returns-in_err-object-clause-kept : goal.returns-in_err-object-clause-kept
returns-in_err-object-clause-kept c = IsExtended-refl c.args.draft.now.names

pub returns-in_err-list-clause-kept : goal.returns-in_err-list-clause-kept
returns-in_err-list-clause-kept c = IsExtended-refl c.args.draft.now.names

pub returns-in_err-params-clause-kept : goal.returns-in_err-params-clause-kept
returns-in_err-params-clause-kept c = c.in_err-params.ensures.kept

pub returns-in_err-own-clause-kept : goal.returns-in_err-own-clause-kept
returns-in_err-own-clause-kept c = IsExtended-trans c.args.draft.now.names c.read_params.new.draft.names c.read_own_constraints.new.draft.names c.in_ok-params.ensures.kept c.in_err-own.ensures.kept

pub returns-in_err-extend_from_slice-clause-kept : goal.returns-in_err-extend_from_slice-clause-kept
returns-in_err-extend_from_slice-clause-kept c = IsExtended-trans c.args.draft.now.names c.read_params.new.draft.names c.read_own_constraints.new.draft.names c.in_ok-params.ensures.kept c.in_ok-own.ensures.kept

pub returns-clause-kept : goal.returns-clause-kept
returns-clause-kept c = IsExtended-trans c.args.draft.now.names c.read_params.new.draft.names c.read_own_constraints.new.draft.names c.in_ok-params.ensures.kept c.in_ok-own.ensures.kept
