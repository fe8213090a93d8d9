use Rattle.std.proofs.Common.{◌≡◌, ◌-◌, ◌≤◌, ◌++◌, length, flat_map}
use Rattle.std.specs.List.{AllByRecursion}
use Rattle.spec_refutation.specs.Text.{clause_line}
use Rattle.spec_refutation.specs.Reading.{IsClause}
use Rattle.feat_proof.proofs.reading.clauses.Given as goal

-- what is read so far, and what is left
abbrev pub invariant-lines : goal.invariant-lines
invariant-lines l = record {
  good : AllByRecursion (IsClause l.vars) l.clauses.items;
  read : l.text ≡ flat_map clause_line l.clauses.items ++ l.rest;
  few : length l.clauses.items ≤ l.count;
}

abbrev pub decreases-lines : goal.decreases-lines
decreases-lines l = l.count - length l.clauses.items
