use Rattle.std.proofs.Common.{◌≡◌, map, drop}
use Rattle.mrs_arena.specs.Views.{flat_item}
use Rattle.insn_tree.specs.Upward.{onto}
use Rattle.insn_tree.specs.Visible.{with_field}
use Rattle.insn_tree.specs.Views.{flat_field}
use Rattle.insn_tree.proofs.item_fields.push_fields.Given as goal

-- the fields of the items behind place i are put
abbrev pub invariant-items : goal.invariant-items
invariant-items l = map flat_field l.deeper.items ≡ onto with_field (map flat_item (drop l.i l.fn.items)) (map flat_field l.fn.deeper.items)
