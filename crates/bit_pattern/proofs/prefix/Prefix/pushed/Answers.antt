use Rattle.bit_pattern.proofs.PushLaws.{push_digits, push_inside, push_fits, room_to_double}
use Rattle.bit_pattern.proofs.prefix.Prefix.pushed.Goals as goal

pub doubled-requires-clause-fits : goal.doubled-requires-clause-fits
doubled-requires-clause-fits c = room_to_double c.args.self.mask c.args.self.width c.args.self.mask_fits c.requires.room

pub invariant_of-result-clause-mask_fits : goal.invariant_of-result-clause-mask_fits
invariant_of-result-clause-mask_fits c =
    push_fits c.args.self.mask c.args.fixed c.args.self.width c.doubled.result c.doubled.ensures c.args.self.mask_fits c.requires.bit

pub invariant_of-result-clause-value_in_mask : goal.invariant_of-result-clause-value_in_mask
invariant_of-result-clause-value_in_mask c =
    push_inside c.args.self.mask c.args.self.value c.args.fixed c.args.one c.doubled.result c.doubled-2.result
    c.doubled.ensures c.doubled-2.ensures c.args.self.value_in_mask c.requires.bit c.requires.inside

pub returns-clause-digits : goal.returns-clause-digits
returns-clause-digits c =
    push_digits c.args.self.mask c.args.self.value c.args.fixed c.args.one c.args.self.width c.doubled.result c.doubled-2.result
    c.doubled.ensures c.doubled-2.ensures c.requires.bit c.requires.inside
