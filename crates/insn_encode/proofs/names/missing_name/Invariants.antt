use Rattle.std.proofs.Common.{◌≡◌, ◌==◌, drop, map}
use Rattle.spec_encoding.specs.Named.{missing}
use Rattle.insn_encode.specs.Views.{pair_of, shown_of}
use Rattle.insn_encode.proofs.names.missing_name.Given as goal

abbrev pub invariant-loop-field : goal.invariant-loop-field
invariant-loop-field l = missing (λ a b. a == b) (shown_of l.layout (drop l.field-index l.fields)) (map pair_of l.pairs) ≡ missing (λ a b. a == b) (shown_of l.layout l.fields) (map pair_of l.pairs)
