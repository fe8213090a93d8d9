use Rattle.spec_refutation.proofs.Places.{one_log, one_place, log_or_fault}
use Rattle.spec_refutation.proofs.laws.no_text_has_two_readings.Goals as goal

pub returns : goal.returns
returns c = record { log = one_log; fault = one_place; not_both = log_or_fault }
