use Rattle.std.proofs.Common.{◌≡◌, ◌++◌, map, drop}
use Rattle.std.specs.Prelude.{filter}
use Rattle.spec_decode.specs.Bucket.{fixes_to}
use Rattle.insn_decode.specs.Members.{encoding_of}
use Rattle.insn_decode.proofs.splitting.agreeing.Given as goal

abbrev pub invariant-loop-member : goal.invariant-loop-member
invariant-loop-member l = map encoding_of l.some.items ++ filter (fixes_to l.i l.v) (map encoding_of (drop l.member-index l.members)) ≡ filter (fixes_to l.i l.v) (map encoding_of l.members)
