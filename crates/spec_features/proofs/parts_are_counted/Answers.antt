use Rattle.spec_features.proofs.PartLaws as parts
use Rattle.spec_features.proofs.parts_are_counted.Goals as goal

pub returns : goal.returns
returns c = parts.parts_are_counted
