use Rattle.std.proofs.Common.{sym, ap, Some, None, ◌∙◌}
use Rattle.expr_classes.proofs.Layers.{read_stands}
use Rattle.expr_classes.proofs.numbering.class_of.Goals as goal

pub class-requires : goal.class-requires
class-requires c =
    let s = read_stands c.args.table.now _ c.args.classes.now c.args.arena.now.exprs _ _ c.args.e.0 (Some c.in-Some.key) _ c.requires.all c.in_ok-list.ensures.grown c.requires.next
    c.expr-layer.ensures.below c.parts_of.ensures (c.in_ok-list.ensures.stands c.args.arena.now.exprs c.requires.all) c.expr-layer.ensures.layer c.in-Some.ensures in
    s.0

pub returns-in_ok-class-in-Some-clause-stands : goal.returns-in_ok-class-in-Some-clause-stands
returns-in_ok-class-in-Some-clause-stands c =
    let s = read_stands c.args.table.now _ c.args.classes.now c.args.arena.now.exprs _ _ c.args.e.0 (Some c.in-Some.key) _ c.requires.all c.in_ok-list.ensures.grown c.requires.next
    c.expr-layer.ensures.below c.parts_of.ensures (c.in_ok-list.ensures.stands c.args.arena.now.exprs c.requires.all) c.expr-layer.ensures.layer c.in-Some.ensures in
    (c.in_ok-class-in-Some.ensures.class ∙ ap Some s.1.0, s.1.1)

pub returns-in-None-clause-stands : goal.returns-in-None-clause-stands
returns-in-None-clause-stands c =
    read_stands c.args.table.now _ c.args.classes.now c.args.arena.now.exprs _ _ c.args.e.0 None _ c.requires.all c.in_ok-list.ensures.grown c.requires.next
    c.expr-layer.ensures.below c.parts_of.ensures (c.in_ok-list.ensures.stands c.args.arena.now.exprs c.requires.all) c.expr-layer.ensures.layer (sym c.in-None.is ∙ c.key_of.ensures)
