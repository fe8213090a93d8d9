-- What became of a stream that was assembled.
use Rattle.std.specs.Prelude.{ℕ}
use Rattle.spec_io.specs.States.{Reading, Writing}
use Rattle.spec_run.specs.End.{End}
use Rattle.spec_run.specs.Work.{Reads}
use Rattle.spec_run.specs.Assembling.{asm_work}
use Rattle.spec_run.specs.Ran.{Ran}
use Rattle.list_words.specs.Listers.{machine}
use Rattle.list_words.specs.declared.lister.Lister.{Lister}
use Rattle.asm_stream.specs.declared.ended.Ended.{Ended}
use Rattle.asm_stream.specs.Endings.{EndsAs}

-- the work of `asm` under a limit ended so
pub record Assembles (lister : Lister) (limit : ℕ) (r0 r1 : Reading) (w0 w1 : Writing) (how : Ended) : Type 0 where
  pub end : End
  pub is : EndsAs lister how end
  pub ran : Ran r0 r1 w0 w1 (Reads (asm_work (machine lister) limit)) end
