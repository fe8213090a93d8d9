use Rattle.std.proofs.Common.{◌+◌, ◌*◌, map}
use Rattle.serde_json.specs.Data.{depth}
use Rattle.serde_json.specs.View.{view}
use Rattle.mrs_walk.specs.Here.{spot_of}
use Rattle.expression_reader.proofs.ExprsLaws.{PartsRead}
use Rattle.expression_reader.proofs.expressions.+expressions.Given as goal

abbrev pub decreases-read_expression : goal.decreases-read_expression
decreases-read_expression l = 3 * depth (view l.here.now.value.now) + 2

abbrev pub decreases-read_not : goal.decreases-read_not
decreases-read_not l = 3 * depth (view l.here.now.value.now) + 1

abbrev pub decreases-read_binary : goal.decreases-read_binary
decreases-read_binary l = 3 * depth (view l.here.now.value.now) + 1

abbrev pub decreases-read_call : goal.decreases-read_call
decreases-read_call l = 3 * depth (view l.here.now.value.now) + 1

abbrev pub decreases-read_set_expression : goal.decreases-read_set_expression
decreases-read_set_expression l = 3 * depth (view l.here.now.value.now) + 1

abbrev pub decreases-read_join : goal.decreases-read_join
decreases-read_join l = 3 * depth (view l.here.now.value.now) + 1

abbrev pub decreases-read_index : goal.decreases-read_index
decreases-read_index l = 3 * depth (view l.here.now.value.now) + 1

abbrev pub decreases-read_slice : goal.decreases-read_slice
decreases-read_slice l = 3 * depth (view l.here.now.value.now) + 1

abbrev pub decreases-read_part : goal.decreases-read_part
decreases-read_part l = 3 * depth (view l.here.now.value.now)

abbrev pub decreases-read_list : goal.decreases-read_list
decreases-read_list l = 3 * depth (view l.here.now.value.now)

abbrev pub invariant-read_list-loop-i : goal.invariant-read_list-loop-i
invariant-read_list-loop-i l = PartsRead (spot_of l.list).at l.fn.draft l.draft (map (λ id. id.0) l.ids.items) l.i l.values
