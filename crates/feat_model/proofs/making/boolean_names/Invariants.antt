use Rattle.std.proofs.Common.{◌≡◌, ◌++◌, map, drop}
use Rattle.features_reader.specs.FeatureViews.{param_of}
use Rattle.spec_features.specs.Features.{booleans}
use Rattle.feat_model.specs.Meets.{numbers_of, ComeFrom}
use Rattle.feat_model.proofs.making.boolean_names.Given as goal

abbrev pub invariant-loop-param : goal.invariant-loop-param
invariant-loop-param l = record {
  names : numbers_of l.names.keys ++ booleans (map param_of (drop l.param-index l.params)) ≡ booleans (map param_of l.params);
  from : ComeFrom l.params l.param-index l.names.keys;
}
