use Rattle.std.proofs.Common.{◌≡◌, ◌<◌, ◌++◌, false, length}
use Rattle.spec_refutation.specs.Text.{begins_with_digit, spaced_literals}
use Rattle.spec_refutation.specs.Reading.{IsClause}
use Rattle.feat_proof.proofs.lines.literals.Given as goal

-- what is read so far, and what is left
abbrev pub invariant-literals : goal.invariant-literals
invariant-literals l = record {
  good : IsClause l.vars l.literals.items;
  read : l.text ≡ spaced_literals l.literals.items ++ l.rest;
  stop : 0 < length l.literals.items → begins_with_digit l.rest ≡ false;
}

abbrev pub decreases-literals : goal.decreases-literals
decreases-literals l = length l.rest
