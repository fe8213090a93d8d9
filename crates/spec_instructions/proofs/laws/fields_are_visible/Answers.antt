use Rattle.spec_instructions.proofs.VisibleLaws.{fields_are_visible}
use Rattle.spec_instructions.proofs.laws.fields_are_visible.Goals as goal

pub returns : goal.returns
returns c = fields_are_visible
