use Rattle.std.proofs.Common.{◌∙◌, sym, true, false}
use Rattle.spec_walk.specs.Event.{Doubled}
use Rattle.mrs_walk.specs.Here.{spot_of}
use Rattle.features_reader.specs.FeaturesRead.{texts_of}
use Rattle.features_reader.proofs.ParamReadLaws.{param_name_is, made_fault}
use Rattle.features_reader.proofs.params.read_param_name.Goals as goal

pub returns-then-is_doubled-clause-walk : goal.returns-then-is_doubled-clause-walk
returns-then-is_doubled-clause-walk c before same =
    made_fault c.fault-then-is_doubled.result (spot_of c.in_ok-place.place) Doubled _ _ c.fault-then-is_doubled.ensures
    (param_name_is before (spot_of c.args.here.now) (spot_of c.in_ok-place.place) c.in_ok-text.text.now (texts_of c.args.draft.now.names c.args.params.now) true same c.in_ok-place.ensures c.in_ok-text.ensures
    (sym c.is_name.ensures ∙ c.if-not-is_name.false) (sym c.is_doubled.ensures ∙ c.if-is_doubled.true))

pub returns-clause-walk : goal.returns-clause-walk
returns-clause-walk c before same =
    param_name_is before (spot_of c.args.here.now) (spot_of c.in_ok-place.place) c.in_ok-text.text.now (texts_of c.args.draft.now.names c.args.params.now) false same c.in_ok-place.ensures c.in_ok-text.ensures
    (sym c.is_name.ensures ∙ c.if-not-is_name.false) (sym c.is_doubled.ensures ∙ c.if-is_doubled.false)
