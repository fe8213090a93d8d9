use Rattle.std.proofs.Common.{◌≡◌, ◌++◌, map, drop}
use Rattle.insn_tree.specs.Conditions.{is_conditioned}
use Rattle.insn_tree.proofs.leaf_conditions.conditioned_leaves.Given as goal

abbrev pub invariant-loop-leaf : goal.invariant-loop-leaf
invariant-loop-leaf l = l.conditioned.items ++ map (λ n. is_conditioned l.arena.nodes n.0) (drop l.leaf-index l.leaves) ≡ map (λ n. is_conditioned l.arena.nodes n.0) l.leaves
