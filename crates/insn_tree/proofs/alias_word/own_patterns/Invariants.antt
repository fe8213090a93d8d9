use Rattle.std.proofs.Common.{◌≡◌, ◌++◌, IfSome, All, map, option_map, drop}
use Rattle.bit_pattern.specs.Views.{digits_of}
use Rattle.insn_tree.specs.Words.{own_merged_at}
use Rattle.insn_tree.proofs.alias_word.own_patterns.Given as goal

abbrev pub invariant-loop-alias : goal.invariant-loop-alias
invariant-loop-alias l = record {
  digits : map (option_map digits_of) l.patterns.items ++ map (λ n. own_merged_at l.arena.nodes n.0) (drop l.alias-index l.aliases) ≡ map (λ n. own_merged_at l.arena.nodes n.0) l.aliases;
  widths : All (λ own. IfSome own (λ p. p.width ≡ 32)) l.patterns.items;
}
