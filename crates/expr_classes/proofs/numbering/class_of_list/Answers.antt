use Rattle.std.proofs.Common.{refl, arith, sym, ◌∙◌}
use Rattle.expr_classes.proofs.Lists.{list_begins, list_goes_on, list_stops}
use Rattle.expr_classes.proofs.numbering.class_of_list.Goals as goal

pub back-init : goal.back-init
back-init c = record {
  within = omega arith;
  list = list_begins _ _ c.args.classes.now c.args.parts.now _ _ refl c.requires.have c.in_ok-class.ensures.more c.in_ok-class.ensures.class;
}

pub class_at-requires : goal.class_at-requires
class_at-requires c = c.part_at.ensures.below _ c.requires.parts

pub returns-in_default-clause-stands : goal.returns-in_default-clause-stands
returns-in_default-clause-stands c = list_stops c.args.table.now c.args.classes.now c.args.parts.now _ _ c.part_at.ensures.place (c.part_at.ensures.below _ c.requires.parts) (sym c.class_at.ensures ∙ c.in_default.is)

pub back-preserved : goal.back-preserved
back-preserved c = record {
  within = omega (arith, c.back.invariant.within);
  list = list_goes_on _ _ _ c.args.classes.now c.args.parts.now c.back.left _ _ _ _ _ (omega (arith, c.back-test.true)) c.part_at.ensures.place c.back.invariant.list (c.part_at.ensures.below _ c.requires.parts)
      (sym c.class_at.ensures ∙ c.in-Some.is) c.in_ok-class-2.ensures.more c.in_ok-class-2.ensures.class;
}
