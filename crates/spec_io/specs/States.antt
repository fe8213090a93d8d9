-- What the objects of the outside tell at a moment.
use Rattle.std.specs.Prelude.{ℕ, List, Option}
use Rattle.spec_io.specs.Documents.{Document}

-- a shelf: its documents, where it tells them, and its count of faults
pub record Shelving : Type 0 where
  pub documents : Option (List Document)
  pub faults : ℕ

-- a source: the bytes that it has left, where it tells them, and its count of faults
pub record Reading : Type 0 where
  pub left : Option (List ℕ)
  pub faults : ℕ

-- a sink: the bytes that it has taken, where it tells them, and its count of faults
pub record Writing : Type 0 where
  pub taken : Option (List ℕ)
  pub faults : ℕ
