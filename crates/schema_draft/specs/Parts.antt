-- What the parts of an encodeset that are read stand for.
use Rattle.std.specs.Prelude.{◌≡◌, ℕ, ◌<◌, List, length, None, IfSome, bytes_eq, false}
use Rattle.std.specs.List.{list_any}
use Rattle.mrs_arena.specs.Placed.{text_of, item_of}
use Rattle.mrs_arena.specs.Views.{flat_item}
use Rattle.spec_bits.specs.Item as bits
use Rattle.spec_instructions.specs.Encodeset as encodeset
use Rattle.bit_pattern.specs.declared.range.Range.{Range}
use Rattle.bit_pattern.specs.Views.{digits_of}
use Rattle.bit_pattern.specs.Marks.{marks_of}
use Rattle.mrs_arena.specs.declared.item.Item.{Item}

abbrev pub range_of : Range → encodeset.Range
range_of r = record { start = r.start; width = r.width }

-- an item without its name
abbrev pub bare_item : Item → bits.Item
bare_item it = record { name = None; start = it.start; digits = digits_of it.pattern; marks = marks_of it.pattern.width it.should }

-- an item that is read can be put: its name is held, and none of those before it has it
pub record IsRead (it : bits.Item) (names : List (List ℕ)) (earlier : List bits.Item) (x : Item) : Type 0 where
  pub item : item_of names (flat_item x) ≡ it
  pub held : IfSome x.name (λ id. id.0 < length names)
  pub free : IfSome x.name (λ id. list_any (bytes_eq (text_of names id.0)) (encodeset.names_of earlier) ≡ false)
