use Rattle.std.proofs.Common.{◌≡◌, length, neg_ℤ, true, false, sym, ap, ◌∙◌, arith}
use Rattle.spec_refutation.specs.Derivation.{has}
use Rattle.feat_solve.specs.Learnt.{settled}
use Rattle.feat_solve.proofs.Jumps.{settled_level, settled_stays, settled_bottom, below_shorter}
use Rattle.feat_solve.proofs.learning.settle.Goals as goal

pub returns-then-contains : goal.returns-then-contains
returns-then-contains c =
    let f : has c.args.clause.now (neg_ℤ c.in-Some.decision) ≡ true = ap (has c.args.clause.now) (sym c.negated.ensures) ∙ sym c.contains.ensures ∙ c.if-contains.true in
    sym (settled_stays c.args.clause.now c.levels.trail c.levels.trail c.in-Some.decision (sym c.in-Some.ensures) f) ∙ c.levels.invariant

pub levels-smaller : goal.levels-smaller
levels-smaller c =
    omega (arith, ap length c.take_back.ensures.trail, below_shorter c.levels.trail c.in-Some.decision (sym c.in-Some.ensures))

pub levels-preserved : goal.levels-preserved
levels-preserved c =
    let f : has c.args.clause.now (neg_ℤ c.in-Some.decision) ≡ false = ap (has c.args.clause.now) (sym c.negated.ensures) ∙ sym c.contains.ensures ∙ c.if-contains.false in
    ap (λ t. settled c.args.clause.now t t) c.take_back.ensures.trail
    ∙ sym (settled_level c.args.clause.now c.levels.trail c.levels.trail c.in-Some.decision (sym c.in-Some.ensures) f)
    ∙ c.levels.invariant

pub returns : goal.returns
returns c = sym (settled_bottom c.args.clause.now c.levels.trail c.levels.trail (sym c.in_default.ensures)) ∙ c.levels.invariant
