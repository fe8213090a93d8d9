use Rattle.std.proofs.Common.{◌≡◌, drop, map, None}
use Rattle.std.specs.List.{list_all}
use Rattle.spec_bits.specs.Item.{item_holds}
use Rattle.mrs_arena.specs.Flat.{with_text}
use Rattle.mrs_arena.specs.Views.{flat_item}
use Rattle.insn_encode.proofs.exclusion.do_hold.Given as goal

abbrev pub invariant-loop-it : goal.invariant-loop-it
invariant-loop-it l = list_all (λ it. item_holds (with_text None it) l.w) (map flat_item (drop l.it-index l.items)) ≡ list_all (λ it. item_holds (with_text None it) l.w) (map flat_item l.items)
