-- What went through a sink or a source in several calls.
use Rattle.std.specs.Prelude.{◌≡◌, ℕ, ◌<◌, List, length, take, Option}
use Rattle.std.specs.Io.KnownBytes.{Appends, Consumes}

-- a first part of the bytes was appended, short of the whole
pub record AppendsPart (old new : Option (List ℕ)) (bytes : List ℕ) : Type 0 where
  pub count : ℕ
  pub short : count < length bytes
  pub front : Appends old new (take count bytes)

-- fewer than so many bytes were consumed
pub record ConsumesPart (old new : Option (List ℕ)) (room : ℕ) : Type 0 where
  pub bytes : List ℕ
  pub short : length bytes < room
  pub front : Consumes old new bytes

-- just so many bytes were consumed
pub record ConsumesMany (old new : Option (List ℕ)) (count : ℕ) : Type 0 where
  pub bytes : List ℕ
  pub whole : length bytes ≡ count
  pub front : Consumes old new bytes
