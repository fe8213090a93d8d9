use Rattle.std.proofs.Common.{ap, sym, subst, length, ◌∷◌, [], arith, ℕ, List, Option}
use Rattle.std.proofs.lemmas.List.{length-append}
use Rattle.expr_classes.specs.Classes.{AllStand, Stands}
use Rattle.mrs_arena.specs.Expressions.{expr_at}
use Rattle.expr_classes.proofs.Final.{all_more}
use Rattle.expr_classes.proofs.numbering.all_classes.Goals as goal

pub loop-e-preserved : goal.loop-e-preserved
loop-e-preserved c =
    let P : List (Option ℕ) → Type 0 = λ cs. AllStand c.class_of.new.table cs c.args.arena.now.exprs in
    let Q : ℕ → Type 0 = λ n. Stands c.class_of.new.table c.in_ok-class.class (expr_at c.args.arena.now.exprs n) in
    let old = c.loop-e.classes.items in
    record {
      count = omega (arith, ap length c.in_ok-push.ensures.items, length-append old (c.in_ok-class.class ∷ []), c.loop-e.invariant.count);
      all = subst P (sym c.in_ok-push.ensures.items)
          (all_more c.loop-e.table c.class_of.new.table old c.args.arena.now.exprs c.in_ok-class.class c.loop-e.invariant.all c.in_ok-class.ensures.grown (subst Q (sym c.loop-e.invariant.count) c.in_ok-class.ensures.stands));
    }
