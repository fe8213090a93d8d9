use Rattle.std.proofs.lemmas.Nat.{or_lt}
use Rattle.word_layout.proofs.fixed_bits.FixedBits.over.Goals as goal

pub invariant_of-result-clause-fits : goal.invariant_of-result-clause-fits
invariant_of-result-clause-fits c = or_lt 32 c.args.self.mask c.args.others.mask c.args.self.fits c.args.others.fits
