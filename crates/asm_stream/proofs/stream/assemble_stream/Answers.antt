use Rattle.std.proofs.Common.{refl}
use Rattle.spec_run.specs.End as run
use Rattle.spec_run.proofs.Told.{not_begun}
use Rattle.asm_stream.proofs.stream.assemble_stream.Goals as goal

pub returns-in-Err : goal.returns-in-Err
returns-in-Err g c = record { end = run.NoMemory; is = refl; ran = not_begun _ _ _ }
