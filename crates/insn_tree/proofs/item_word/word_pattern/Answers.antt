use Rattle.insn_tree.proofs.WordLaws.{placed_fits, placed_inside, placed_digits}
use Rattle.insn_tree.proofs.item_word.word_pattern.Goals as goal

pub invariant_of-result-clause-mask_fits : goal.invariant_of-result-clause-mask_fits
invariant_of-result-clause-mask_fits c = placed_fits c.args.it.now c.fixed-fixed.result c.fixed-fixed.ensures.width

pub invariant_of-result-clause-value_in_mask : goal.invariant_of-result-clause-value_in_mask
invariant_of-result-clause-value_in_mask c = placed_inside c.args.it.now c.fixed-fixed.result c.fixed-fixed.ensures.width

pub returns-clause-digits : goal.returns-clause-digits
returns-clause-digits c = placed_digits c.args.it.now c.fixed-fixed.result c.fixed-fixed.ensures.width c.fixed-fixed.ensures.digits
