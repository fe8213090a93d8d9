use Rattle.std.proofs.Common.{◌≡◌, ◌-◌, ◌≤◌, ◌++◌, length, flat_map}
use Rattle.std.specs.List.{AllByRecursion}
use Rattle.spec_refutation.specs.Text.{step_line}
use Rattle.spec_refutation.specs.Reading.{IsStep}
use Rattle.feat_proof.proofs.reading.steps.Given as goal

-- what is read so far, and what is left
abbrev pub invariant-lines : goal.invariant-lines
invariant-lines l = record {
  good : AllByRecursion (IsStep l.vars l.lines) l.steps.items;
  read : l.text ≡ flat_map step_line l.steps.items ++ l.rest;
  few : length l.steps.items ≤ l.count;
}

abbrev pub decreases-lines : goal.decreases-lines
decreases-lines l = l.count - length l.steps.items
