use Rattle.std.proofs.Common.{◌≡◌, ◌≤◌, filter, length, map}
use Rattle.std.specs.List.{range_with_len}
use Rattle.mrs_arena.specs.Limits.{is_leaf}
use Rattle.mrs_arena.specs.Placed.{has_kind}
use Rattle.insn_tree.specs.Leaves.{leaves_before}
use Rattle.insn_tree.proofs.leaf_nodes.find_leaves.Given as goal

abbrev pub invariant-loop-n : goal.invariant-loop-n
invariant-loop-n l = record {
  nodes : map (λ n. n.0) l.nodes.items ≡ filter (has_kind is_leaf l.arena.nodes) (range_with_len 0 l.n);
  before : l.before.items ≡ map (leaves_before l.arena.nodes) (range_with_len 0 l.n);
  few : length l.nodes.items ≤ l.n;
}
