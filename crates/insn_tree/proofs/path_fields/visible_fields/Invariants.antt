use Rattle.std.proofs.Common.{◌≡◌, ◌<◌, [], All, length, map}
use Rattle.insn_tree.specs.Upward.{upward, gathered}
use Rattle.insn_tree.specs.Visible.{with_field}
use Rattle.insn_tree.specs.Views.{flat_field}
use Rattle.insn_tree.proofs.path_fields.visible_fields.Given as goal

abbrev pub invariant-loop-above : goal.invariant-loop-above
invariant-loop-above l = record {
  fields : upward with_field l.arena.nodes l.above-iterator (map flat_field l.fields.items) ≡ gathered with_field l.arena.nodes l.fn.n.0 [];
  nodes : All (λ k. k < length l.arena.nodes) l.above-iterator;
}
