use Rattle.spec_lines.proofs.SoundAliasLaws.{aliases_are_sound}
use Rattle.spec_lines.proofs.laws.aliases_are_sound.Goals as goal

pub returns : goal.returns
returns c = aliases_are_sound
