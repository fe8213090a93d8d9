use Rattle.spec_features.proofs.Firsts.{each_extends}
use Rattle.spec_features.proofs.each_configuration_extends.Goals as goal

pub returns : goal.returns
returns c = each_extends
