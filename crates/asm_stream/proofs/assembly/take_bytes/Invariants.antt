use Rattle.std.proofs.Common.{◌≡◌, ◌≤◌, ◌+◌, ◌++◌, List, ℕ, length}
use Rattle.list_words.specs.Listers.{machine}
use Rattle.asm_stream.specs.SoFar.{Reaches}
use Rattle.asm_stream.proofs.assembly.take_bytes.Given as goal

abbrev pub invariant-loop-end : goal.invariant-loop-end
invariant-loop-end l = (taken : List ℕ) × (l.bytes ≡ taken ++ l.rest) × Reaches (machine l.lister) l.fn.assembly l.assembly taken × (l.assembly.number + length l.rest ≤ l.fn.assembly.number + length l.bytes)

abbrev pub decreases-loop-end : goal.decreases-loop-end
decreases-loop-end l = length l.rest
