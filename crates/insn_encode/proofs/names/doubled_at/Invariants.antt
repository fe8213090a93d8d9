use Rattle.std.proofs.Common.{◌≡◌, ◌==◌, drop, take, map, []}
use Rattle.spec_encoding.specs.Named.{doubled_from}
use Rattle.insn_encode.specs.Views.{pair_of}
use Rattle.insn_encode.proofs.names.doubled_at.Given as goal

abbrev pub invariant-loop-i : goal.invariant-loop-i
invariant-loop-i l = doubled_from (λ a b. a == b) (map pair_of (take l.i l.pairs)) l.i (map pair_of (drop l.i l.pairs)) ≡ doubled_from (λ a b. a == b) [] 0 (map pair_of l.pairs)
