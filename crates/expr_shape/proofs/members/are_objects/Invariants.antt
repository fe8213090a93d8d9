use Rattle.std.proofs.Common.{◌≡◌, drop}
use Rattle.serde_json.specs.View.{items_view}
use Rattle.spec_expressions.specs.Shape.{are_objects}
use Rattle.expr_shape.proofs.members.are_objects.Given as goal

abbrev pub invariant-loop-value : goal.invariant-loop-value
invariant-loop-value l = are_objects (items_view (drop l.value-index l.list)) ≡ are_objects (items_view l.list)
