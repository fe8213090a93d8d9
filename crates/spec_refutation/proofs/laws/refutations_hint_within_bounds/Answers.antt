use Rattle.spec_refutation.proofs.Hinted.{refutes_within}
use Rattle.spec_refutation.proofs.laws.refutations_hint_within_bounds.Goals as goal

pub returns : goal.returns
returns c = refutes_within
