use Rattle.spec_expressions.proofs.ShapeReadLaws as shapes
use Rattle.spec_expressions.proofs.each_shape_is_read.Goals as goal

pub returns : goal.returns
returns c = shapes.each_shape_is_read
