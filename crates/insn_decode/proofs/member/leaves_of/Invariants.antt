use Rattle.std.proofs.Common.{◌≡◌, ◌++◌, map, drop}
use Rattle.insn_tree.specs.declared.leaf_id.LeafId.{LeafId}
use Rattle.insn_decode.specs.declared.member.Member.{Member}
use Rattle.insn_decode.proofs.member.leaves_of.Given as goal

abbrev pub invariant-loop-member : goal.invariant-loop-member
invariant-loop-member l = map (λ (leaf : LeafId). leaf.0) l.leaves.items ++ map (λ (m : Member). m.leaf.0) (drop l.member-index l.members) ≡ map (λ (m : Member). m.leaf.0) l.members
