use Rattle.spec_refutation.proofs.Failures.{refutes_tells, fails_tells, told_refutes, told_fails}
use Rattle.spec_refutation.proofs.laws.each_failure_is_told.Goals as goal

pub returns : goal.returns
returns c = record {
  none = λ clauses steps. (refutes_tells clauses steps, told_refutes clauses steps);
  one = λ clauses steps n. (fails_tells clauses steps n, told_fails clauses steps n);
}
