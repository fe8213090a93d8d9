use Rattle.std.proofs.Common.{◌-◌, bit_or}
use Rattle.std.proofs.lemmas.Nat.{or_lt}
use Rattle.bit_pattern.proofs.MarkLaws.{and_inside}
use Rattle.word_layout.proofs.LayoutLaws.{free-mask, default-mask, free-apart}
use Rattle.word_layout.proofs.layout.WordLayout.new.Goals as goal

pub invariant_of-result-clause-apart : goal.invariant_of-result-clause-apart
invariant_of-result-clause-apart c = free-apart c.args.fixed.mask c.args.in_fields (or_lt 32 c.args.fixed.mask c.args.in_fields c.args.fixed.fits c.ranges.in_fields.fits)

pub invariant_of-result-clause-defaults : goal.invariant_of-result-clause-defaults
invariant_of-result-clause-defaults c = and_inside c.args.should_be.value (4294967295 - bit_or c.args.fixed.mask c.args.in_fields)

pub returns-clause-free : goal.returns-clause-free
returns-clause-free c = free-mask c.args.fixed.mask c.args.fixed.value c.args.in_fields c.args.fixed.inside (or_lt 32 c.args.fixed.mask c.args.in_fields c.args.fixed.fits c.ranges.in_fields.fits)

pub returns-clause-default : goal.returns-clause-default
returns-clause-default c = default-mask c.args.should_be.mask c.args.should_be.value (4294967295 - bit_or c.args.fixed.mask c.args.in_fields) c.args.should_be.inside
