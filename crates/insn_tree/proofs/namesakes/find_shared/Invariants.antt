use Rattle.std.proofs.Common.{◌≡◌, ◌++◌, map, drop}
use Rattle.insn_tree.specs.Ends.{is_shared}
use Rattle.insn_tree.proofs.namesakes.find_shared.Given as goal

abbrev pub invariant-loop-name : goal.invariant-loop-name
invariant-loop-name l = l.shared.items ++ map (λ name. is_shared (map (λ name. name.0) l.names) name.0) (drop l.name-index l.names) ≡ map (λ name. is_shared (map (λ name. name.0) l.names) name.0) l.names
