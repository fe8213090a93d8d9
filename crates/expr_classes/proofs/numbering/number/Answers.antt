use Rattle.std.proofs.Common.{sym, subst, arith}
use Rattle.expr_classes.specs.Classes.{Numbered, AreClasses}
use Rattle.expr_classes.proofs.Final.{are_classes, class_within}
use Rattle.expr_classes.proofs.numbering.number.Goals as goal

pub from_parts-requires : goal.from_parts-requires
from_parts-requires c = λ k class lt is.
    omega (arith, class_within c.all_classes.new.table c.in_ok-classes.classes.items c.args.arena.now.exprs c.in_ok-classes.ensures.all k class lt is, c.len-count.ensures.count)

pub returns-clause-same : goal.returns-clause-same
returns-clause-same c =
    let P : Numbered → Type 0 = λ n. AreClasses c.args.arena.now.exprs n.classes in
    subst P (sym c.from_parts.ensures)
    (are_classes c.all_classes.new.table c.in_ok-classes.classes.items c.args.arena.now.exprs c.len-count.ensures.apart c.in_ok-classes.ensures.count c.in_ok-classes.ensures.all)
