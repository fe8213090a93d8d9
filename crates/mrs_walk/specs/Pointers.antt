-- The JSON Pointer of a place.
use Rattle.std.specs.Prelude.{ℕ, List, []}
use Rattle.spec_walk.specs.Pointer.{under, element}
use Rattle.mrs_walk.specs.declared.place.Place.{Place, Root, Member', Element'}

abbrev pub pointer : Place → List ℕ
pointer Root = []
pointer (Member' address owner name) = under (pointer owner) name.now
pointer (Element' address owner index) = element (pointer owner) index
