use Rattle.spec_walk.specs.Spot.{root}
use Rattle.spec_walk.specs.Limits.{from_held}
use Rattle.std.proofs.Common.{◌∙◌, sym}
use Rattle.spec_walk.proofs.FirstFaultLaws.{answers-gives}
use Rattle.spec_instructions.specs.Walk.{instructions}
use Rattle.spec_instructions.proofs.ShapeLaws.{read_shaped}
use Rattle.spec_instructions.proofs.laws.trees_are_sound.Goals as goal

pub returns : goal.returns
returns c = λ isa held d tree counts is. read_shaped isa (root d) (from_held held) counts tree (sym (answers-gives (instructions isa (root d)) (from_held held)) ∙ is)
