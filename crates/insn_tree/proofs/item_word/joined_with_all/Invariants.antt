use Rattle.std.proofs.Common.{◌≡◌, IfSome, map, option_map, drop}
use Rattle.bit_pattern.specs.Views.{digits_of}
use Rattle.mrs_arena.specs.Views.{flat_item}
use Rattle.insn_tree.specs.Upward.{onto}
use Rattle.insn_tree.specs.Words.{join_item}
use Rattle.insn_tree.proofs.item_word.joined_with_all.Given as goal

-- the items behind place i are joined
abbrev pub invariant-items : goal.invariant-items
invariant-items l = record {
  digits : option_map digits_of l.joined ≡ onto join_item (map flat_item (drop l.i l.fn.items)) (option_map digits_of l.fn.deeper);
  width : IfSome l.joined (λ p. p.width ≡ 32);
}
