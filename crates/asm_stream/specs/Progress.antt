-- A stream of which some bytes were taken.
use Rattle.std.specs.Prelude.{◌≡◌, ℕ, List, length}
use Rattle.std.specs.Io.KnownBytes.{Appends, Consumes}
use Rattle.spec_io.specs.States.{Reading, Writing}
use Rattle.list_words.specs.Listers.{machine}
use Rattle.list_words.specs.declared.lister.Lister.{Lister}
use Rattle.asm_stream.specs.declared.assembly.Assembly.{Assembly}
use Rattle.asm_stream.specs.SoFar.{SoFar}

-- so many bytes were taken, no line of them is refused, and their words went out
pub record Progress (lister : Lister) (a : Assembly) (r0 r : Reading) (w0 w : Writing) (size : ℕ) : Type 0 where
  pub done : List ℕ
  pub size_is : length done ≡ size
  pub read : Consumes r0.left r.left done
  pub bytes : List ℕ
  pub wrote : Appends w0.taken w.taken bytes
  pub so_far : SoFar (machine lister) done a.number a.left.items bytes
