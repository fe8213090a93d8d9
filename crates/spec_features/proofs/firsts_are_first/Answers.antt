use Rattle.spec_features.proofs.Firsts as firsts
use Rattle.spec_features.proofs.firsts_are_first.Goals as goal

pub returns : goal.returns
returns c = firsts.firsts_are_first
