use Rattle.spec_run.proofs.Told.{not_begun}
use Rattle.list_stream.proofs.stream.list_stream.Goals as goal

pub returns-in-Err : goal.returns-in-Err
returns-in-Err g c = not_begun _ _ _
