-- What the objects around a run tell before it and after it.
use Rattle.std.specs.Prelude.{◌≡◌, ◌≤◌, ◌<◌, ◌⊎◌, ℕ, List, length, take}
use Rattle.std.specs.Io.KnownBytes.{Appends, Consumes}
use Rattle.spec_io.specs.Faults.{Rose}
use Rattle.spec_io.specs.States.{Shelving, Reading, Writing}

-- the shelf, the source, and the sink for lines
pub record Scene : Type 0 where
  pub shelf : Shelving
  pub shelf_after : Shelving
  pub input : Reading
  pub input_after : Reading
  pub out : Writing
  pub out_after : Writing

-- a sink took exactly these bytes
abbrev pub Took : Writing → Writing → List ℕ → Type 0
Took before after bytes = Appends before.taken after.taken bytes

-- a sink took a prefix of these bytes
abbrev pub TookPrefix : Writing → Writing → List ℕ → Type 0
TookPrefix before after bytes = (n : ℕ) × (n ≤ length bytes) × Took before after (take n bytes)

-- a sink took a prefix of these bytes, and not all of them
abbrev pub TookShort : Writing → Writing → List ℕ → Type 0
TookShort before after bytes = (n : ℕ) × (n < length bytes) × Took before after (take n bytes)

-- a sink took this text, or a prefix of it where it failed
abbrev pub TookText : Writing → Writing → List ℕ → Type 0
TookText before after text = Took before after text ⊎ (Rose before.faults after.faults × TookPrefix before after text)

-- at most so many bytes were taken from a source
pub record ReadsAtMost (before after : Reading) (limit : ℕ) : Type 0 where
  pub bytes : List ℕ
  pub taken : Consumes before.left after.left bytes
  pub few : length bytes ≤ limit

-- the documents stand as before, and no count of faults of shelf, source or sink has fallen
pub record Kept (s : Scene) : Type 0 where
  pub documents : s.shelf_after.documents ≡ s.shelf.documents
  pub shelf : s.shelf.faults ≤ s.shelf_after.faults
  pub input : s.input.faults ≤ s.input_after.faults
  pub out : s.out.faults ≤ s.out_after.faults
