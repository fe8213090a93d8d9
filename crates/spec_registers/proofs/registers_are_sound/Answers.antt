use Rattle.spec_registers.proofs.SoundLaws as laws
use Rattle.spec_registers.proofs.registers_are_sound.Goals as goal

pub returns : goal.returns
returns c = λ held d found counts read. laws.registers_are_sound held d found counts read
