use Rattle.std.proofs.Common.{◌≡◌, ◌+◌, ◌≤◌, length, map, drop}
use Rattle.spec_features.specs.Features.{booleans}
use Rattle.features_reader.specs.FeatureViews.{param_of}
use Rattle.release_opening.proofs.counting.count_booleans.Given as goal

-- with those of the parameters that are left, they are those of all
abbrev pub invariant-loop-param : goal.invariant-loop-param
invariant-loop-param l = record {
  count : l.count + length (booleans (map param_of (drop l.param-index l.params))) ≡ length (booleans (map param_of l.fn.params));
  few : l.count ≤ l.param-index;
}
