-- What the members of a decider's order stand for.
use Rattle.bit_pattern.specs.Digits.{digits_below}
use Rattle.spec_decode.specs.Bucket.{Encoding}
use Rattle.insn_decode.specs.declared.member.Member.{Member}

unfoldable pub encoding_of : Member → Encoding
encoding_of m = record { leaf = m.leaf.0; digits = digits_below m.mask m.value 32 }
