use Rattle.spec_expressions.proofs.ReadLaws.{each_object_is_one}
use Rattle.spec_expressions.proofs.each_object_is_one.Goals as goal

pub returns : goal.returns
returns c = each_object_is_one
