-- What a reader meets in a document, in order: names, one more of a counted thing, and faults, each at its place.
use Rattle.std.specs.Prelude.{ℕ, List}
use Rattle.spec_bits.specs.PatternText.{PatternRefusal}

-- why a document is refused
pub data Why : Type 0 where
  Missing : List ℕ → Why
  UnlistedKind : Why
  WrongShape : Why
  BadPattern : PatternRefusal → Why
  BadRange : Why
  BadName : Why
  Doubled : Why
  TooMany : Why
  NoSet : Why

-- a fault: the Pointer of its place, and the reason
pub record Fault : Type 0 where
  pub at : List ℕ
  pub why : Why

-- what is counted on the way, each with a limit of its own
pub data Thing : Type 0 where
  ANode : Thing
  ALeaf : Thing
  AnAlias : Thing
  AnExpression : Thing

pub data Event : Type 0 where
  -- the object that has the text as its member, and the text
  Name : List ℕ → List ℕ → Event
  -- one more of that thing, at its object
  OneMore : Thing → List ℕ → Event
  Wrong : Fault → Event
