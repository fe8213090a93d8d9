use Rattle.std.proofs.Common.{◌≡◌, ◌<◌, All, length}
use Rattle.std.specs.List.{list_any}
use Rattle.insn_tree.specs.Conditions.{has_condition, is_conditioned}
use Rattle.insn_tree.proofs.leaf_conditions.has_conditions.Given as goal

-- the nodes that are left decide
abbrev pub invariant-loop-above : goal.invariant-loop-above
invariant-loop-above l = record {
  left : list_any (has_condition l.arena.nodes) l.above-iterator ≡ is_conditioned l.arena.nodes l.fn.n.0;
  nodes : All (λ k. k < length l.arena.nodes) l.above-iterator;
}
