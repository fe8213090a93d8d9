use Rattle.std.proofs.Common.{◌∙◌, sym, ap, bit_and}
use Rattle.bit_pattern.specs.Digits.{digits_below}
use Rattle.bit_pattern.proofs.MarkLaws.{unmarked, unmarked-lt, and_inside, chosen_digits-unmarked}
use Rattle.mrs_arena.proofs.item.Item.fixed.Goals as goal

pub invariant_of-result-clause-mask_fits : goal.invariant_of-result-clause-mask_fits
invariant_of-result-clause-mask_fits c = unmarked-lt c.args.self.now.pattern.mask _ c.args.self.now.pattern.width c.args.self.now.pattern.mask_fits

pub invariant_of-result-clause-value_in_mask : goal.invariant_of-result-clause-value_in_mask
invariant_of-result-clause-value_in_mask c = and_inside c.args.self.now.pattern.value _

pub returns-clause-digits : goal.returns-clause-digits
returns-clause-digits c =
    let p = c.args.self.now.pattern in
    ap (λ should. digits_below (unmarked p.mask should) (bit_and p.value (unmarked p.mask should)) p.width) c.from-should.ensures
    ∙ sym (chosen_digits-unmarked p.mask p.value c.args.self.now.should p.width p.value_in_mask)
