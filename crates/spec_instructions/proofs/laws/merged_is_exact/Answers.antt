use Rattle.spec_instructions.proofs.MergedLaws.{merged_is_exact}
use Rattle.spec_instructions.proofs.laws.merged_is_exact.Goals as goal

pub returns : goal.returns
returns c = merged_is_exact
