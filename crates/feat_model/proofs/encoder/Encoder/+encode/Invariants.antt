use Rattle.spec_features.specs.Formula.{size}
use Rattle.feat_model.specs.Views.{formula_of}
use Rattle.feat_model.proofs.encoder.Encoder.+encode.Given as goal

abbrev pub decreases-encode : goal.decreases-encode
decreases-encode l = size (formula_of l.formula.now)
