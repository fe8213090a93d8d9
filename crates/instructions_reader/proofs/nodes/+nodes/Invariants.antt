use Rattle.std.proofs.Common.{◌+◌, ◌*◌}
use Rattle.serde_json.specs.Data.{depth}
use Rattle.serde_json.specs.View.{view}
use Rattle.mrs_arena.specs.Placed.{kind_of}
use Rattle.mrs_walk.specs.Here.{spot_of}
use Rattle.schema_draft.specs.Drafted.{named_at}
use Rattle.instructions_reader.proofs.NodeLaws.{ChildrenRead}
use Rattle.instructions_reader.proofs.nodes.+nodes.Given as goal

abbrev pub decreases-read_child : goal.decreases-read_child
decreases-read_child l = 3 * depth (view l.here.now.value.now) + 2

abbrev pub decreases-read_node : goal.decreases-read_node
decreases-read_node l = 3 * depth (view l.here.now.value.now) + 1

abbrev pub decreases-read_children : goal.decreases-read_children
decreases-read_children l = 3 * depth (view l.here.now.value.now)

abbrev pub invariant-read_children-loop-i : goal.invariant-read_children-loop-i
invariant-read_children-loop-i l = ChildrenRead (record { owner = kind_of l.owner; named = named_at l.fn.draft.nodes l.parent.0 }) (spot_of l.list).at l.parent.0 l.fn.draft l.draft l.i l.values
