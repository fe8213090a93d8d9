use Rattle.std.proofs.Common.{◌≡◌, map, drop}
use Rattle.std.specs.List.{list_all}
use Rattle.spec_decode.specs.Bucket.{is_fixed}
use Rattle.insn_decode.specs.Members.{encoding_of}
use Rattle.insn_decode.proofs.splitting.all_fix.Given as goal

abbrev pub invariant-loop-member : goal.invariant-loop-member
invariant-loop-member l = list_all (is_fixed l.i) (map encoding_of (drop l.member-index l.members)) ≡ list_all (is_fixed l.i) (map encoding_of l.members)
