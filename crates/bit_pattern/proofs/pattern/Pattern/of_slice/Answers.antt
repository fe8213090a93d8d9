use Rattle.std.proofs.Common.{◌∙◌, ap}
use Rattle.spec_bits.specs.Number.{low_digits}
use Rattle.bit_pattern.proofs.KnownLaws.{ones_fit, slice_in_ones, digits_below-ones}
use Rattle.bit_pattern.proofs.pattern.Pattern.of_slice.Goals as goal

pub invariant_of-result-clause-mask_fits : goal.invariant_of-result-clause-mask_fits
invariant_of-result-clause-mask_fits c = ones_fit c.args.range.width c.ones.result c.ones.ensures

pub invariant_of-result-clause-value_in_mask : goal.invariant_of-result-clause-value_in_mask
invariant_of-result-clause-value_in_mask c = slice_in_ones c.args.bits c.args.range.start c.args.range.width c.ones.result c.slice.result c.ones.ensures c.slice.ensures

pub returns-clause-digits : goal.returns-clause-digits
returns-clause-digits c = digits_below-ones c.ones.result c.slice.result c.args.range.width c.ones.ensures ∙ ap (low_digits c.args.range.width) c.slice.ensures
