use Rattle.std.proofs.Common.{◌≡◌, map}
use Rattle.spec_decode.specs.Bucket.{highest_split}
use Rattle.insn_decode.specs.Members.{encoding_of}
use Rattle.insn_decode.proofs.splitting.highest_split.Given as goal

-- no bit from bit i up splits
abbrev pub invariant-bits : goal.invariant-bits
invariant-bits l = highest_split l.i (map encoding_of l.members) ≡ highest_split 32 (map encoding_of l.members)
