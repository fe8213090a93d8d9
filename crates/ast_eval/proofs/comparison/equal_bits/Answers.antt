use Rattle.std.proofs.Common.{◌∙◌, sym}
use Rattle.ast_eval.proofs.BitsLaws.{equal_digits-apart, equal_digits-left, equal_digits-right, equal_digits-open}
use Rattle.ast_eval.proofs.comparison.equal_bits.Goals as goal

pub returns-then-left-right : goal.returns-then-left-right
returns-then-left-right c = equal_digits-apart c.args.left.now c.args.right.now c.if-left-right.true

pub returns-in-Some : goal.returns-in-Some
returns-in-Some c =
    c.known.ensures ∙ equal_digits-left c.args.left.now c.args.right.now c.in-Some.number c.holds.result c.if-left-right.false (sym c.in-Some.is ∙ c.number.ensures.number) c.holds.ensures

pub returns-in-Some-number : goal.returns-in-Some-number
returns-in-Some-number c =
    c.known-in-Some-number.ensures
    ∙ equal_digits-right c.args.left.now c.args.right.now c.in-Some-number.number c.holds-in-Some-number.result c.if-left-right.false
    (sym c.in_default.is ∙ c.number.ensures.number) (sym c.in-Some-number.is ∙ c.number-2.ensures.number) c.holds-in-Some-number.ensures

pub returns-in-None : goal.returns-in-None
returns-in-None c = equal_digits-open c.args.left.now c.args.right.now c.if-left-right.false (sym c.in_default.is ∙ c.number.ensures.number) (sym c.in-None.is ∙ c.number-2.ensures.number)
