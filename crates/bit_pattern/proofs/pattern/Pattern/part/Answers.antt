use Rattle.std.proofs.Common.{◌∙◌, ap₂}
use Rattle.spec_bits.proofs.BitLaws.{slice-lt}
use Rattle.bit_pattern.specs.Digits.{digits_below}
use Rattle.bit_pattern.proofs.EndLaws.{digits-part, part_inside}
use Rattle.bit_pattern.proofs.pattern.Pattern.part.Goals as goal

pub invariant_of-result-clause-mask_fits : goal.invariant_of-result-clause-mask_fits
invariant_of-result-clause-mask_fits c = rw c.slice.ensures (slice-lt c.args.self.now.mask c.args.range.start c.args.range.width)

pub invariant_of-result-clause-value_in_mask : goal.invariant_of-result-clause-value_in_mask
invariant_of-result-clause-value_in_mask c =
    rw (c.slice.ensures, c.slice-2.ensures) (part_inside c.args.self.now.mask c.args.self.now.value c.args.range.start c.args.range.width c.args.self.now.value_in_mask)

pub returns : goal.returns
returns c =
    ap₂ (λ m v. digits_below m v c.args.range.width) c.slice.ensures c.slice-2.ensures
    ∙ digits-part c.args.self.now.mask c.args.self.now.value c.args.self.now.width c.args.range.start c.args.range.width c.requires
