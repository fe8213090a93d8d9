use Rattle.std.proofs.Common.{◌≡◌, ◌==◌, drop, map}
use Rattle.spec_encoding.specs.Named.{is_paired}
use Rattle.insn_encode.specs.Views.{pair_of}
use Rattle.insn_encode.proofs.names.is_paired.Given as goal

abbrev pub invariant-loop-pair : goal.invariant-loop-pair
invariant-loop-pair l = is_paired (λ a b. a == b) (map pair_of (drop l.pair-index l.pairs)) l.name.0 ≡ is_paired (λ a b. a == b) (map pair_of l.pairs) l.name.0
