use Rattle.spec_run.proofs.Exact.{prefixes_go_out}
use Rattle.spec_run.proofs.prefixes_go_out.Goals as goal

pub returns : goal.returns
returns c = prefixes_go_out
