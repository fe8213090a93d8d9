use Rattle.std.proofs.Common.{◌≡◌, map, drop}
use Rattle.std.specs.List.{list_any}
use Rattle.mrs_arena.specs.Views.{flat_item}
use Rattle.mrs_arena.specs.Nodes.{has_name_id}
use Rattle.mrs_arena.proofs.taken.is_name_of_one.Given as goal

abbrev pub invariant-loop-it : goal.invariant-loop-it
invariant-loop-it l = list_any (has_name_id l.name.0) (map flat_item (drop l.it-index l.items)) ≡ list_any (has_name_id l.name.0) (map flat_item l.items)
