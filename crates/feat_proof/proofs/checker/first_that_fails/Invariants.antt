use Rattle.spec_refutation.specs.Refutation.{EachFollows}
use Rattle.feat_proof.proofs.checker.first_that_fails.Given as goal

abbrev pub invariant-loop-number : goal.invariant-loop-number
invariant-loop-number l = EachFollows l.clauses l.steps l.number
