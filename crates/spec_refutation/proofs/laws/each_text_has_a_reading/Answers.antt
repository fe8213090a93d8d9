use Rattle.spec_refutation.proofs.Judging.{judged}
use Rattle.spec_refutation.proofs.laws.each_text_has_a_reading.Goals as goal

pub returns : goal.returns
returns c = judged
