use Rattle.std.proofs.Common.{◌≡◌, ◌<◌, ◌≤◌, ◌-◌, length, map}
use Rattle.mrs_arena.specs.Paths.{end_of}
use Rattle.mrs_arena.specs.Inside.{parent_of}
use Rattle.mrs_arena.proofs.EndLaws.{end_past}
use Rattle.mrs_arena.proofs.ends.end_after.Given as goal

-- the subtrees up to `end` are below the node
abbrev pub invariant-below : goal.invariant-below
invariant-below l = record {
  after : l.n < l.end;
  within : l.end ≤ length l.nodes;
  past : end_past (map parent_of l.nodes) l.n l.end ≡ end_of (map parent_of l.nodes) l.n;
}

abbrev pub decreases-below : goal.decreases-below
decreases-below l = length l.nodes - l.end
