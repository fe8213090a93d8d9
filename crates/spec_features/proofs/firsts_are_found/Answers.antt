use Rattle.spec_features.proofs.ChoiceLaws as choice
use Rattle.spec_features.proofs.firsts_are_found.Goals as goal

pub returns : goal.returns
returns c = choice.firsts_are_found
