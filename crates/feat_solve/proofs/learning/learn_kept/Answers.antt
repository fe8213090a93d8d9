use Rattle.std.proofs.Common.{◌≡◌, ◌<◌, ◌-◌, ◌++◌, ◌∷◌, [], suc, reverse, take, length, ap, ◌∙◌, arith}
use Rattle.feat_solve.specs.Learnt.{causes}
use Rattle.feat_solve.proofs.Lemmas.{walk_begins, walk_goes_on, walk_ends, taken, whole}
use Rattle.feat_solve.proofs.learning.learn_kept.Goals as goal

pub walk-init : goal.walk-init
walk-init c =
    let es = c.args.entries.now in (
      omega arith,
      walk_begins c.args.known.now c.args.conflict (reverse es) (reverse (take (length es) es)) c.mark_causes.new.needed
          c.new-clause.result.items c.push.new.self.items (ap reverse (whole es))
          (c.in_ok-mark_causes.ensures ∙ ap (λ x. x ++ causes c.args.known.now c.args.conflict) c.clear.ensures)
          c.new-clause.ensures.items (c.in_ok-push.ensures.items ∙ ap (λ x. x ++ (c.args.conflict ∷ [])) c.new-hints.ensures.items),
    )

pub walk-preserved : goal.walk-preserved
walk-preserved c =
    let es = c.args.entries.now in
    let k = c.walk.left - 1 in
    let at : c.walk.left ≡ suc k = omega (arith, c.walk-test.true) in
    let lt : k < length es = omega (arith, c.walk-test.true, c.walk.invariant.0) in (
      omega (arith, lt),
      walk_goes_on c.args.known.now c.args.conflict (reverse es) (reverse (take c.walk.left es)) (reverse (take k es))
          c.index-entries-left-in-walk.result c.keeps-kept.result c.walk.marks c.visit.new.needed c.walk.clause.items c.visit.new.clause.items
          c.walk.hints.items c.visit.new.hints.items (taken es c.walk.left k c.index-entries-left-in-walk.result at lt c.index-entries-left-in-walk.is)
          c.walk.invariant.1 c.in_ok-visit.ensures.clause c.in_ok-visit.ensures.hints,
    )

pub returns : goal.returns
returns c =
    let es = c.args.entries.now in
    let none : c.walk.left ≡ 0 = omega (arith, c.walk-test.false) in
    let t = walk_ends c.args.known.now c.args.conflict (reverse es) (reverse (take c.walk.left es)) c.walk.marks c.walk.clause.items
    c.walk.hints.items c.reverse.new.self.items (ap (λ k. reverse (take k es)) none) c.reverse.ensures.items c.walk.invariant.1 in
    (t.0, c.from_parts.ensures ∙ ap (λ x. (x, c.reverse.new.self.items)) c.from_vec.ensures ∙ t.1)
