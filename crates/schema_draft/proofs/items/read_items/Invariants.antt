use Rattle.mrs_walk.specs.Here.{spot_of}
use Rattle.schema_draft.proofs.ItemLaws.{ItemsRead}
use Rattle.schema_draft.proofs.items.read_items.Given as goal

abbrev pub invariant-loop-i : goal.invariant-loop-i
invariant-loop-i l = ItemsRead (spot_of l.fn.here).at l.fn.draft l.draft l.i l.values
