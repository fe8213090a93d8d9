use Rattle.std.proofs.Common.{◌≡◌, ◌==◌, drop, map}
use Rattle.std.specs.List.{position_from}
use Rattle.spec_encoding.specs.Named.{is_unknown}
use Rattle.insn_encode.specs.Views.{pair_of, shown_of}
use Rattle.insn_encode.proofs.names.unknown_at.Given as goal

abbrev pub invariant-loop-i : goal.invariant-loop-i
invariant-loop-i l = position_from (is_unknown (λ a b. a == b) (shown_of l.layout l.fields)) l.i (map pair_of (drop l.i l.pairs)) ≡ position_from (is_unknown (λ a b. a == b) (shown_of l.layout l.fields)) 0 (map pair_of l.pairs)
