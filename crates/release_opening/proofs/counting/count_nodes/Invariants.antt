use Rattle.std.proofs.Common.{◌≡◌, ◌≤◌}
use Rattle.mrs_arena.specs.Limits.{is_leaf, is_alias}
use Rattle.release_opening.proofs.CountLaws.{kept}
use Rattle.release_opening.proofs.counting.count_nodes.Given as goal

-- those of the nodes so far are counted
abbrev pub invariant-loop-n : goal.invariant-loop-n
invariant-loop-n l = record {
  leaves : l.leaves ≡ kept is_leaf l.arena.nodes l.n;
  aliases : l.aliases ≡ kept is_alias l.arena.nodes l.n;
  few_leaves : l.leaves ≤ l.n;
  few_aliases : l.aliases ≤ l.n;
}
