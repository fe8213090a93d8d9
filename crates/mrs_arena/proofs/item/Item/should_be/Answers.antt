use Rattle.std.proofs.Common.{◌∙◌, sym, ap, bit_and, arith}
use Rattle.bit_pattern.specs.Digits.{digits_below}
use Rattle.bit_pattern.proofs.MarkLaws.{and_inside}
use Rattle.mrs_arena.proofs.MarkedLaws.{chosen_digits-marked, marked-lt}
use Rattle.mrs_arena.proofs.item.Item.should_be.Goals as goal

pub invariant_of-result-clause-mask_fits : goal.invariant_of-result-clause-mask_fits
invariant_of-result-clause-mask_fits c =
    let it = c.args.self.now in
    let below = marked-lt it.pattern.mask it.should it.pattern.width it.marked it.pattern.mask_fits in
    omega (arith, below, c.from-mask.ensures)

pub invariant_of-result-clause-value_in_mask : goal.invariant_of-result-clause-value_in_mask
invariant_of-result-clause-value_in_mask c = and_inside c.args.self.now.pattern.value _

pub returns-clause-digits : goal.returns-clause-digits
returns-clause-digits c =
    let p = c.args.self.now.pattern in
    ap (λ should. digits_below should (bit_and p.value should) p.width) c.from-mask.ensures
    ∙ sym (chosen_digits-marked p.mask p.value c.args.self.now.should p.width p.value_in_mask c.args.self.now.marked)
