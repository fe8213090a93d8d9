use Rattle.std.proofs.Common.{◌≡◌, ℕ, List, map}
use Rattle.std.specs.Prelude.{find}
use Rattle.std.specs.List.{range_with_len}
use Rattle.insn_tree.specs.Trees.{number_of}
use Rattle.insn_tree.specs.Labels.{has_flat_label}
use Rattle.insn_tree.proofs.labels.find_labels.Given as goal

abbrev pub invariant-loop-k : goal.invariant-loop-k
invariant-loop-k l = (text : List ℕ) → number_of text l.labels ≡ find (has_flat_label l.names (map (λ name. name.0) l.path_names) l.shared text) (range_with_len 0 l.k)
