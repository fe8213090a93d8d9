use Rattle.spec_refutation.proofs.Outcome.{outcome, refutes_or_fails, one_failure}
use Rattle.spec_refutation.proofs.laws.each_log_has_one_outcome.Goals as goal

pub returns : goal.returns
returns c = record { some = outcome; not_both = refutes_or_fails; one = one_failure }
