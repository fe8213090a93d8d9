use Rattle.std.proofs.Common.{◌≡◌, ◌++◌, drop, string_bytes}
use Rattle.spec_refutation.specs.Text.{spaced_numbers}
use Rattle.feat_proof.proofs.printing.push_numbers.Given as goal

abbrev pub invariant-loop-number : goal.invariant-loop-number
invariant-loop-number l = string_bytes l.text ++ spaced_numbers (drop l.number-index l.numbers) ≡ string_bytes l.fn.text ++ spaced_numbers l.numbers
