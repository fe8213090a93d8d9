use Rattle.std.proofs.Common.{◌≡◌, ◌++◌, ◌+◌, ◌≤◌, ℕ, List, map, drop}
use Rattle.spec_decode.specs.Found.{Candidate}
use Rattle.spec_decode.specs.Bucket.{found_among}
use Rattle.mrs_arena.specs.Placed.{text_of}
use Rattle.ast_eval.specs.Choices.{configuration_of}
use Rattle.insn_tree.specs.Trees.{tree_paths}
use Rattle.insn_decode.specs.Members.{encoding_of}
use Rattle.insn_tree.specs.Verdicts.{AreHeldBy}
use Rattle.insn_decode.specs.Judged.{IsFound}
use Rattle.insn_decode.proofs.judging.found_among.Given as goal

-- those found so far, and those to come
abbrev pub invariant-loop-member : goal.invariant-loop-member
invariant-loop-member g l =
    ((names : List (List ℕ)) → AreHeldBy names l.tree.nodes l.config → (before : List Candidate) × IsFound l.found before
    × (before ++ found_among (map encoding_of (drop l.member-index l.members)) (tree_paths names l.tree) (configuration_of (text_of names) l.config) l.w ≡ found_among (map encoding_of l.members) (tree_paths names l.tree) (configuration_of (text_of names) l.config) l.w))
    × (l.steps ≤ l.fn.steps + l.member-index)
