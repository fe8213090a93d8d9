use Rattle.insn_decode.proofs.MemberLaws.{fixes_where, free_of}
use Rattle.insn_decode.proofs.member.Member.fixes_to.Goals as goal

pub returns-then-bit-eq1 : goal.returns-then-bit-eq1
returns-then-bit-eq1 c = fixes_where c.args.self.now c.args.i c.args.v c.bit.result c.bit-then-bit-eq1.result c.requires c.bit.ensures c.if-bit-eq1.true c.bit-then-bit-eq1.ensures

pub returns-else-bit-eq1 : goal.returns-else-bit-eq1
returns-else-bit-eq1 c = free_of c.args.self.now c.args.i c.args.v c.bit.result c.requires c.bit.ensures c.if-bit-eq1.false
