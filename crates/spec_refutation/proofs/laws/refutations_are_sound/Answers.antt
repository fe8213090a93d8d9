use Rattle.spec_refutation.proofs.Sound.{refutes_sound}
use Rattle.spec_refutation.proofs.laws.refutations_are_sound.Goals as goal

pub returns : goal.returns
returns c = refutes_sound
