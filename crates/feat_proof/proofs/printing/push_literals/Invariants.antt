use Rattle.std.proofs.Common.{◌≡◌, ◌++◌, drop, string_bytes}
use Rattle.spec_refutation.specs.Text.{spaced_literals}
use Rattle.feat_proof.proofs.printing.push_literals.Given as goal

abbrev pub invariant-loop-literal : goal.invariant-loop-literal
invariant-loop-literal l = string_bytes l.text ++ spaced_literals (drop l.literal-index l.literals) ≡ string_bytes l.fn.text ++ spaced_literals l.literals
