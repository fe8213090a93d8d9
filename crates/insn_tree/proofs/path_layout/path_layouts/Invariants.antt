use Rattle.std.proofs.Common.{◌≡◌, ◌++◌, map, drop}
use Rattle.spec_encoding.specs.Layout.{numbers}
use Rattle.word_layout.specs.Views.{numbers_of}
use Rattle.insn_tree.specs.Layouts.{layout_at}
use Rattle.insn_tree.proofs.path_layout.path_layouts.Given as goal

abbrev pub invariant-loop-k : goal.invariant-loop-k
invariant-loop-k l = map numbers_of l.layouts.items ++ map (λ n. numbers (layout_at l.arena.nodes n.0)) (drop l.k l.ends) ≡ map (λ n. numbers (layout_at l.arena.nodes n.0)) l.ends
