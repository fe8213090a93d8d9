use Rattle.spec_run.proofs.Exact.{faults_come_late}
use Rattle.spec_run.proofs.faults_come_late.Goals as goal

pub returns : goal.returns
returns c = faults_come_late
