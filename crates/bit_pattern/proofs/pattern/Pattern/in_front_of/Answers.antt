use Rattle.bit_pattern.proofs.DigitLaws.{inside_le}
use Rattle.bit_pattern.proofs.EndLaws.{room_beside, beside_fits, beside_inside, digits-beside}
use Rattle.std.proofs.Common.{◌<◌, ◌^◌, arith}
use Rattle.bit_pattern.specs.declared.pattern.Pattern.{Pattern}
use Rattle.bit_pattern.proofs.pattern.Pattern.in_front_of.Goals as goal

value_fits : (p : Pattern) → p.value < 2 ^ p.width
value_fits p = omega (arith, inside_le p.value p.mask p.value_in_mask, p.mask_fits)

pub beside-requires-clause-fits : goal.beside-requires-clause-fits
beside-requires-clause-fits c = room_beside c.args.self.now.mask c.args.self.now.width c.args.lower.now.width c.args.self.now.mask_fits c.requires

pub beside-requires-2-clause-fits : goal.beside-requires-2-clause-fits
beside-requires-2-clause-fits c = room_beside c.args.self.now.value c.args.self.now.width c.args.lower.now.width (value_fits c.args.self.now) c.requires

pub beside-requires-2-clause-low : goal.beside-requires-2-clause-low
beside-requires-2-clause-low c = value_fits c.args.lower.now

pub invariant_of-result-clause-mask_fits : goal.invariant_of-result-clause-mask_fits
invariant_of-result-clause-mask_fits c =
    beside_fits c.args.self.now.mask c.args.self.now.width c.args.lower.now.mask c.args.lower.now.width c.beside.result c.args.self.now.mask_fits c.args.lower.now.mask_fits c.beside.ensures

pub invariant_of-result-clause-value_in_mask : goal.invariant_of-result-clause-value_in_mask
invariant_of-result-clause-value_in_mask c =
    beside_inside c.args.self.now.mask c.args.self.now.value c.args.lower.now.mask c.args.lower.now.value c.args.lower.now.width c.beside.result c.beside-2.result
    c.args.lower.now.mask_fits (value_fits c.args.lower.now) c.beside.ensures c.beside-2.ensures c.args.self.now.value_in_mask c.args.lower.now.value_in_mask

pub returns : goal.returns
returns c =
    digits-beside c.args.self.now.mask c.args.self.now.value c.args.self.now.width c.args.lower.now.mask c.args.lower.now.value c.args.lower.now.width c.beside.result c.beside-2.result
    c.args.lower.now.mask_fits (value_fits c.args.lower.now) c.beside.ensures c.beside-2.ensures
