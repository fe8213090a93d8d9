-- What an opening of the code answers: what was opened, or why nothing is. Want of memory is the one free answer.
use Rattle.std.specs.Prelude.{◌≡◌, Bool, true, List, Result, Ok, Err, ⊤}
use Rattle.spec_io.specs.Documents.{Document}
use Rattle.spec_io.specs.States.{Shelving}
use Rattle.spec_refutation.specs.Refutation.{Refutes}
use Rattle.spec_refutation.specs.Reading.{IsLog}
use Rattle.spec_run.specs.End as run
use Rattle.spec_run.specs.Opening as opening
use Rattle.spec_run.specs.Opens.{ShelfStill, DocumentsGive, IsUnopened}
use Rattle.release_opening.specs.declared.opening_error.OpeningError.{OpeningError}
use Rattle.release_opening.specs.declared.opening_error.OpeningError.TheVariants as error
use Rattle.release_opening.specs.Documents.{which_of, fault_of}

-- What is made of the documents. Where no configuration fits, the log refutes the clauses, and can be written with them.
abbrev pub Opens : {A : Type 0} → (List Document → Result A opening.OpeningError) → Shelving → Shelving → Result A OpeningError → Type 0
Opens given shelf shelf_after (Ok found) = DocumentsGive given shelf shelf_after (Ok found) × ShelfStill shelf shelf_after
Opens given shelf shelf_after (Err (error.NotRead which)) = IsUnopened given shelf shelf_after (opening.NotRead (which_of which))
Opens given shelf shelf_after (Err (error.TooLong which)) = IsUnopened given shelf shelf_after (opening.TooLong (which_of which))
Opens given shelf shelf_after (Err (error.Refused which fault)) = IsUnopened given shelf shelf_after (opening.Refused (which_of which) (fault_of fault))
Opens given shelf shelf_after (Err (error.UnknownPin pin)) = IsUnopened given shelf shelf_after (opening.UnknownPin pin)
Opens given shelf shelf_after (Err (error.NoneFits cnf log)) = IsUnopened given shelf shelf_after (opening.NoneFits cnf.0 cnf.1) × Refutes cnf.1 log × IsLog cnf.0 cnf.1 log
Opens given shelf shelf_after (Err error.NoMemory) = ShelfStill shelf shelf_after

-- a document that an error names is one of these
abbrev pub IsOf : {A : Type 0} → (run.Which → Bool) → Result A OpeningError → Type 0
IsOf names (Ok found) = ⊤
IsOf names (Err (error.NotRead which)) = names (which_of which) ≡ true
IsOf names (Err (error.TooLong which)) = names (which_of which) ≡ true
IsOf names (Err (error.Refused which fault)) = names (which_of which) ≡ true
IsOf names (Err error) = ⊤
