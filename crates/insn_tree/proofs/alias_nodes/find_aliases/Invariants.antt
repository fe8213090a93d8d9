use Rattle.std.proofs.Common.{◌≡◌, filter, map}
use Rattle.std.specs.List.{range_with_len}
use Rattle.mrs_arena.specs.Limits.{is_alias}
use Rattle.mrs_arena.specs.Placed.{has_kind}
use Rattle.insn_tree.specs.Leaves.{leaf_above}
use Rattle.insn_tree.proofs.alias_nodes.find_aliases.Given as goal

abbrev pub invariant-loop-n : goal.invariant-loop-n
invariant-loop-n l = record {
  nodes : map (λ n. n.0) l.nodes.items ≡ filter (has_kind is_alias l.arena.nodes) (range_with_len 0 l.n);
  leaves : map (λ n. n.0) l.leaves.items ≡ map (leaf_above l.arena.nodes) (filter (has_kind is_alias l.arena.nodes) (range_with_len 0 l.n));
}
