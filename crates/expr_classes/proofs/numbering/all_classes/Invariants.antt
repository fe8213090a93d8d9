use Rattle.std.proofs.Common.{◌≡◌, length}
use Rattle.expr_classes.specs.Classes.{AllStand}
use Rattle.expr_classes.proofs.numbering.all_classes.Given as goal

abbrev pub invariant-loop-e : goal.invariant-loop-e
invariant-loop-e l = record {
  count : length l.classes.items ≡ l.e;
  all : AllStand l.table l.classes.items l.arena.exprs;
}
