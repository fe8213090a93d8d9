use Rattle.std.proofs.Common.{sym, refl, nat_eq, ◌∙◌}
use Rattle.feat_model.proofs.Positions.{position-map}
use Rattle.feat_model.proofs.parameters.parameter.Goals as goal

pub returns-in-Some-clause-place : goal.returns-in-Some-clause-place
returns-in-Some-clause-place c =
    c.in-Some.ensures.index ∙ sym (position-map (nat_eq c.args.name.0) _ (λ name. name.0) c.args.names.now.keys (λ name. refl))

pub returns-in-None-clause-place : goal.returns-in-None-clause-place
returns-in-None-clause-place c =
    sym c.in-None.is ∙ c.get_index_of.ensures.index ∙ sym (position-map (nat_eq c.args.name.0) _ (λ name. name.0) c.args.names.now.keys (λ name. refl))
