use Rattle.std.proofs.Common.{◌≡◌, ◌++◌, map, drop}
use Rattle.insn_tree.specs.Ends.{name_at}
use Rattle.insn_tree.proofs.path_names.path_names.Given as goal

abbrev pub invariant-loop-end : goal.invariant-loop-end
invariant-loop-end l = map (λ name. name.0) l.names.items ++ map (λ n. name_at l.arena.nodes n.0) (drop l.end-index l.ends) ≡ map (λ n. name_at l.arena.nodes n.0) l.ends
