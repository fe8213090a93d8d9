use Rattle.std.proofs.Common.{◌≡◌, ◌<◌, All, length, option_map}
use Rattle.ast_eval.specs.Fields.{items_to, last_named, bounds_of}
use Rattle.ast_eval.proofs.LastLaws.{bounds_up}
use Rattle.ast_eval.proofs.deepest.range_at.Given as goal

-- no item of the nodes that are passed has the name
abbrev pub invariant-loop-above : goal.invariant-loop-above
invariant-loop-above l = record {
  bounds : bounds_up l.arena.nodes l.fn.name.0 l.above-iterator ≡ option_map bounds_of (last_named l.fn.name.0 (items_to l.fn.arena.nodes l.fn.node.0));
  nodes : All (λ k. k < length l.arena.nodes) l.above-iterator;
}
