use Rattle.spec_instructions.proofs.SoundPathLaws.{paths_are_sound}
use Rattle.spec_instructions.proofs.laws.paths_are_sound.Goals as goal

pub returns : goal.returns
returns c = paths_are_sound
