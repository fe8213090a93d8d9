use Rattle.std.proofs.Common.{◌≡◌, ◌++◌, ℕ, List, map, drop}
use Rattle.spec_decode.specs.Bucket.{encodings, encodings_from}
use Rattle.insn_tree.specs.Trees.{tree_paths}
use Rattle.insn_decode.specs.Members.{encoding_of}
use Rattle.insn_decode.proofs.gathering.gather.Given as goal

-- the leaves before leaf l are put
abbrev pub invariant-loop-l : goal.invariant-loop-l
invariant-loop-l l = (names : List (List ℕ)) → map encoding_of l.members.items ++ encodings_from l.l (drop l.l (tree_paths names l.tree)) ≡ encodings (tree_paths names l.tree)
