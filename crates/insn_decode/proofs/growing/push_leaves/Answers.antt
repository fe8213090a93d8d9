use Rattle.std.proofs.Common.{arith}
use Rattle.insn_decode.proofs.GrowLaws.{leaves_pushed}
use Rattle.insn_decode.proofs.growing.push_leaves.Goals as goal

pub returns-clause-decides : goal.returns-clause-decides
returns-clause-decides c =
    leaves_pushed c.push_node.result c.args.nodes.now.items c.push_node.new.nodes.items c.args.order.now.items c.extend_from_slice.new.self.items c.args.members.now c.len-from.result c.len-to.result
    c.requires.none c.in_ok-extend_from_slice.ensures.items (omega (arith, c.len-from.ensures, c.args.order.now.ok.0)) (omega (arith, c.len-to.ensures, c.extend_from_slice.new.self.ok.0)) c.push_node.ensures.number c.push_node.ensures.nodes
