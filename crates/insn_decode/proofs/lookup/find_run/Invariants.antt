use Rattle.std.proofs.Common.{List, map}
use Rattle.spec_decode.specs.Bucket.{Encoding}
use Rattle.insn_decode.specs.Members.{encoding_of}
use Rattle.insn_decode.specs.Decides.{Decides}
use Rattle.insn_decode.proofs.LookupLaws.{Reached}
use Rattle.insn_decode.proofs.lookup.find_run.Given as goal

-- of all leaves that the root stands for, those that node k stands for remain
abbrev pub invariant-down : goal.invariant-down
invariant-down g l = (all : List Encoding) → Decides l.nodes (map encoding_of l.order) l.root all → Reached l.nodes (map encoding_of l.order) l.w l.fn.steps l.steps l.k all

-- the nodes below a node stand before it
abbrev pub decreases-down : goal.decreases-down
decreases-down g l = l.k
