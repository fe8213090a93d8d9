use Rattle.std.proofs.Common.{◌≡◌, ◌==◌, map}
use Rattle.std.specs.List.{list_any}
use Rattle.mrs_arena.specs.Paths.{ancestors}
use Rattle.mrs_arena.specs.Inside.{parent_of}
use Rattle.mrs_arena.proofs.path.is_on_path.Given as goal

-- the node is among those that are left exactly where it is on the path
abbrev pub invariant-loop-above : goal.invariant-loop-above
invariant-loop-above l = list_any (λ k. k == l.node.0) l.above-iterator ≡ list_any (λ k. k == l.node.0) (ancestors (map parent_of l.fn.nodes) l.fn.n)
