use Rattle.spec_run.proofs.RoundTrip.{bare_lines_are_assembled, lists_are_assembled}
use Rattle.spec_run.proofs.lists_are_assembled.Goals as goal

pub returns-clause-lines : goal.returns-clause-lines
returns-clause-lines c = bare_lines_are_assembled

pub returns-clause-runs : goal.returns-clause-runs
returns-clause-runs c = lists_are_assembled
