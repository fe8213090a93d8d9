use Rattle.std.proofs.Common.{◌≡◌, map}
use Rattle.mrs_arena.specs.Inside.{without_end, HasEnds}
use Rattle.mrs_arena.proofs.ends.fill_ends.Given as goal

-- the ends are filled in from the node of the last turn on, and nothing else is changed
abbrev pub invariant-nodes : goal.invariant-nodes
invariant-nodes l = record {
  same : map without_end l.nodes ≡ map without_end l.fn.nodes;
  ends : HasEnds l.nodes l.n;
}
