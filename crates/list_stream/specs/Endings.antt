-- How the listing of a stream ends, as the end of a run.
use Rattle.spec_run.specs.End as run
use Rattle.list_stream.specs.declared.ended.Ended.{Ended}
use Rattle.list_stream.specs.declared.ended.Ended.TheVariants as ended

abbrev pub end_of : Ended → run.End
end_of ended.Done = run.Done
end_of (ended.Ragged rest) = run.Ragged rest
end_of ended.ReadFault = run.ReadFault run.Input
end_of ended.WriteFault = run.WriteFault
end_of ended.Limit = run.Limit run.Input
end_of ended.NoMemory = run.NoMemory
