use Rattle.std.proofs.Common.{refl, ap, sym}
use Rattle.bit_pattern.specs.Digits.{digits_below}
use Rattle.insn_decode.specs.Members.{encoding_of}
use Rattle.insn_decode.proofs.gathering.member_of.Goals as goal

pub returns-clause-leaf : goal.returns-clause-leaf
unfolding encoding_of
returns-clause-leaf c = refl

pub returns-clause-digits : goal.returns-clause-digits
unfolding encoding_of
returns-clause-digits c = ap (digits_below c.args.fixed.now.mask c.args.fixed.now.value) (sym c.requires)
