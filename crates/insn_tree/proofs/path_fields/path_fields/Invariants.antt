use Rattle.std.proofs.Common.{◌≡◌, ◌++◌, map, drop}
use Rattle.insn_tree.specs.Visible.{fields_at}
use Rattle.insn_tree.proofs.path_fields.path_fields.Given as goal

abbrev pub invariant-loop-end : goal.invariant-loop-end
invariant-loop-end l = l.table ++ map (λ n. fields_at l.arena.nodes n.0) (drop l.end-index l.ends) ≡ map (λ n. fields_at l.arena.nodes n.0) l.ends
