use Rattle.std.proofs.Common.{◌≡◌, map, drop}
use Rattle.std.specs.List.{list_any}
use Rattle.spec_decode.specs.Bucket.{fixes_to}
use Rattle.insn_decode.specs.Members.{encoding_of}
use Rattle.insn_decode.proofs.splitting.one_fixes.Given as goal

abbrev pub invariant-loop-member : goal.invariant-loop-member
invariant-loop-member l = list_any (fixes_to l.i l.v) (map encoding_of (drop l.member-index l.members)) ≡ list_any (fixes_to l.i l.v) (map encoding_of l.members)
