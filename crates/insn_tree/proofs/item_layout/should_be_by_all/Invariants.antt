use Rattle.std.proofs.Common.{◌≡◌, ℕ, map, drop}
use Rattle.mrs_arena.specs.Views.{flat_item}
use Rattle.word_layout.specs.Views.{fixed_in}
use Rattle.insn_tree.specs.Upward.{onto}
use Rattle.insn_tree.specs.Layouts.{should_last}
use Rattle.insn_tree.proofs.item_layout.should_be_by_all.Given as goal

-- the items behind place k have been asked
abbrev pub invariant-items : goal.invariant-items
invariant-items l = (i : ℕ) → fixed_in l.should_be i ≡ onto (should_last i) (map flat_item (drop l.k l.fn.items)) (fixed_in l.fn.deeper i)
