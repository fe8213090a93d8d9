use Rattle.spec_expressions.proofs.FieldLaws.{are_slices}
use Rattle.spec_expressions.proofs.fields_are_slices.Goals as goal

pub returns : goal.returns
returns c = are_slices
