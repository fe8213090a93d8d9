use Rattle.std.proofs.Common.{◌≤◌, length, drop}
use Rattle.expr_classes.specs.Classes.{ListAt}
use Rattle.expr_classes.proofs.numbering.class_of_list.Given as goal

abbrev pub invariant-back : goal.invariant-back
invariant-back l = record {
  within : l.left ≤ length l.parts;
  list : ListAt l.fn.table l.table l.classes (drop l.left l.parts) l.class;
}

abbrev pub decreases-back : goal.decreases-back
decreases-back l = l.left
