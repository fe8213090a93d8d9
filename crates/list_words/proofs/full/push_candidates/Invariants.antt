use Rattle.std.proofs.Common.{◌≡◌, ◌++◌, ◌<◌, length, flat_map, map, All}
use Rattle.spec_decode.specs.Found.{Candidate, found}
use Rattle.spec_lines.specs.FullLine.{candidate}
use Rattle.insn_decode.specs.Left.{candidate_of}
use Rattle.list_words.specs.Listers.{machine}
use Rattle.list_words.proofs.full.push_candidates.Given as goal

-- with those that are left, all that are found are told; and those are leaves of the machine
abbrev pub invariant-loop-leaf : goal.invariant-loop-leaf
invariant-loop-leaf l =
    (l.out.items ++ flat_map (candidate (machine l.lister).paths) (map candidate_of l.leaf-iterator) ≡ l.fn.out.items ++ flat_map (candidate (machine l.lister).paths) (found (machine l.lister).paths (machine l.lister).configuration l.word))
    × All (λ (c : Candidate). c.leaf < length (machine l.lister).paths) (map candidate_of l.leaf-iterator)
