use Rattle.std.proofs.Common.{◌≡◌, ◌<◌, ◌++◌, false, length}
use Rattle.std.specs.List.{AllByRecursion}
use Rattle.spec_refutation.specs.Text.{begins_with_digit, spaced_numbers}
use Rattle.spec_refutation.specs.Reading.{IsHint}
use Rattle.feat_proof.proofs.lines.hints.Given as goal

-- what is read so far, and what is left
abbrev pub invariant-hints : goal.invariant-hints
invariant-hints l = record {
  good : AllByRecursion (IsHint l.lines) l.hints.items;
  read : l.text ≡ spaced_numbers l.hints.items ++ l.rest;
  stop : 0 < length l.hints.items → begins_with_digit l.rest ≡ false;
}

abbrev pub decreases-hints : goal.decreases-hints
decreases-hints l = length l.rest
