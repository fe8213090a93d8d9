-- What became of an opening: what the documents give, and the shelf before it and after it.
use Rattle.std.specs.Prelude.{◌≡◌, ◌⊎◌, List, Result, Err, IfSome, IsSomeAnd}
use Rattle.spec_io.specs.Faults.{Rose}
use Rattle.spec_io.specs.Documents.{Document as Named}
use Rattle.spec_io.specs.States.{Shelving}
use Rattle.spec_run.specs.Opening.{OpeningError, NotRead}

-- the shelf's count of faults stays
abbrev pub ShelfStill : Shelving → Shelving → Type 0
ShelfStill shelf shelf_after = shelf_after.faults ≡ shelf.faults

module _ {A : Type 0} (given : List Named → Result A OpeningError) (shelf shelf_after : Shelving) where
  -- what the documents give, where the shelf tells them
  abbrev pub DocumentsGive : Result A OpeningError → Type 0
  DocumentsGive result = IfSome shelf.documents (λ docs. given docs ≡ result)

  -- the documents give this error, and the shelf did not fail
  abbrev pub Gives : OpeningError → Type 0
  Gives error = DocumentsGive (Err error) × ShelfStill shelf shelf_after

  -- nothing is opened: the documents give this error; where one was not read, the shelf tells that it holds none of that name, or
  -- it failed
  abbrev pub IsUnopened : OpeningError → Type 0
  IsUnopened (NotRead which) = Rose shelf.faults shelf_after.faults ⊎ IsSomeAnd shelf.documents (λ docs. given docs ≡ Err (NotRead which))
  IsUnopened error = Gives error
