-- What a step of an opening gives. Where the definition's value is not made of the code's alone, there is one of which it is told.
use Rattle.std.specs.Prelude.{◌≡◌, ◌<◌, ℕ, List, [], length, Option, Result, Ok, Err, ⊤}
use Rattle.serde_json.specs.Data.{Data}
use Rattle.spec_walk.specs.Event.{Fault}
use Rattle.spec_walk.specs.Limits.{Counts}
use Rattle.spec_refutation.specs.Refutation.{Refutes}
use Rattle.spec_refutation.specs.Reading.{IsLog}
use Rattle.spec_features.specs.Features.{Features as Theirs, EachName}
use Rattle.spec_instructions.specs.Tree.{Node}
use Rattle.spec_instructions.specs.Paths.{paths_from}
use Rattle.spec_instructions.specs.Aliases.{aliases_in}
use Rattle.mrs_arena.specs.Flat.{ArenaParts}
use Rattle.mrs_arena.specs.Placed.{IsTree, AreHeld, paths_of}
use Rattle.mrs_arena.specs.AliasPaths.{aliases_by}
use Rattle.features_reader.specs.FeatureViews.{features_of, features_in, AreFeatures}
use Rattle.features_reader.specs.declared.features.Features.{Features}
use Rattle.spec_run.specs.End as run
use Rattle.spec_run.specs.Opening as opening
use Rattle.release_opening.specs.declared.unread.Unread.{Unread}
use Rattle.release_opening.specs.declared.unread.Unread.TheVariants as unread
use Rattle.release_opening.specs.declared.opening_error.OpeningError.{OpeningError}
use Rattle.release_opening.specs.declared.opening_error.OpeningError.TheVariants as error
use Rattle.release_opening.specs.Documents.{fault_of}

-- a value of which this is told, and for which b stands
pub record Stands {A B E : Type 0} (told : Result A E → Type 0) (for : A → B → Type 0) (b : B) : Type 0 where
  pub value : A
  pub is : told (Ok value)
  pub stands : for value b

-- that, or the error is told
abbrev pub Tells : {A B E : Type 0} → (Result A E → Type 0) → (A → B → Type 0) → Result B E → Type 0
Tells told for (Ok b) = Stands told for b
Tells told for (Err error) = told (Err error)

-- what the walk over a value gives, unless memory ran out
abbrev pub ReadsAs : {A : Type 0} → run.Which → (Data → Result A Fault) → Option Data → Result A Unread → Type 0
ReadsAs which walk value (Ok x) = opening.by_value which walk value ≡ Ok x
ReadsAs which walk value (Err (unread.Refused fault)) = opening.by_value which walk value ≡ Err (opening.Refused which (fault_of fault))
ReadsAs which walk value (Err unread.NoMemory) = ⊤

-- an arena for a set, with the names behind the walk
pub record IsArenaFor (names : List (List ℕ)) (read : Node × Counts) (a : ArenaParts) : Type 0 where
  pub names_are : read.1.held ≡ names
  pub tree : IsTree names a.nodes read.0
  pub paths : paths_from [] read.0 ≡ paths_of names a.nodes
  pub aliases : aliases_in read.0 ≡ aliases_by names a.nodes
  pub held : AreHeld names a.nodes

-- features by the numbers of these names, which hold each name of theirs
pub record AreTheirs (names : List (List ℕ)) (theirs : Theirs) (f : Features) : Type 0 where
  pub are : theirs ≡ features_in names f
  pub sound : AreFeatures f
  pub held : EachName (λ n. n < length names) (features_of f)

-- so it is with features that were read
abbrev pub AreRead : List (List ℕ) → Theirs × Counts → Features → Type 0
AreRead names read f = AreTheirs names read.0 f

-- what needs no document comes to this, unless memory ran out
abbrev pub Comes : {A : Type 0} → Result A opening.OpeningError → Result A OpeningError → Type 0
Comes given (Ok x) = given ≡ Ok x
Comes given (Err (error.UnknownPin pin)) = given ≡ Err (opening.UnknownPin pin)
Comes given (Err (error.NoneFits cnf log)) = (given ≡ Err (opening.NoneFits cnf.0 cnf.1)) × Refutes cnf.1 log × IsLog cnf.0 cnf.1 log
Comes given (Err error.NoMemory) = ⊤
Comes given (Err error) = ⊥
