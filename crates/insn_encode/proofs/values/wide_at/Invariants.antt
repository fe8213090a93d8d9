use Rattle.std.proofs.Common.{◌≡◌, ◌==◌, drop, map}
use Rattle.std.specs.List.{position_from}
use Rattle.spec_encoding.specs.Parts.{is_too_wide}
use Rattle.spec_encoding.specs.Named.{parts}
use Rattle.insn_encode.specs.Views.{pair_of, shown_of}
use Rattle.insn_encode.proofs.values.wide_at.Given as goal

abbrev pub invariant-loop-i : goal.invariant-loop-i
invariant-loop-i l = position_from is_too_wide l.i (parts (λ a b. a == b) (shown_of l.layout l.fields) (map pair_of (drop l.i l.pairs))) ≡ position_from is_too_wide 0 (parts (λ a b. a == b) (shown_of l.layout l.fields) (map pair_of l.pairs))
