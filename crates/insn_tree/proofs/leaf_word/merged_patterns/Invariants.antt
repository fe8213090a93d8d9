use Rattle.std.proofs.Common.{◌≡◌, ◌++◌, IfSome, All, map, option_map, drop}
use Rattle.bit_pattern.specs.Views.{digits_of}
use Rattle.insn_tree.specs.Words.{merged_at}
use Rattle.insn_tree.proofs.leaf_word.merged_patterns.Given as goal

abbrev pub invariant-loop-leaf : goal.invariant-loop-leaf
invariant-loop-leaf l = record {
  digits : map (option_map digits_of) l.patterns.items ++ map (λ n. merged_at l.arena.nodes n.0) (drop l.leaf-index l.leaves) ≡ map (λ n. merged_at l.arena.nodes n.0) l.leaves;
  widths : All (λ merged. IfSome merged (λ p. p.width ≡ 32)) l.patterns.items;
}
