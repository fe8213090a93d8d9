use Rattle.spec_refutation.proofs.LogReadings.{log_is_read, fault_is_read}
use Rattle.spec_refutation.proofs.Judging.{read_is_log, read_is_fault}
use Rattle.spec_refutation.proofs.laws.each_text_is_read.Goals as goal

pub returns : goal.returns
returns c = record {
  log = λ text v cs ss. (log_is_read text v cs ss, read_is_log text v cs ss);
  fault = λ text at. (fault_is_read text at, read_is_fault text at);
}
