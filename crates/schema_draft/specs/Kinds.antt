-- The kinds of items that this crate's enum stands for.
use Rattle.spec_instructions.specs.Encodeset as encodeset
use Rattle.schema_draft.specs.declared.items.ItemKind.{ItemKind}
use Rattle.schema_draft.specs.declared.items.ItemKind.TheVariants.{Bits, Field, ShouldBeBits}

abbrev pub item_kind_of : ItemKind → encodeset.ItemKind
item_kind_of Bits = encodeset.Bits
item_kind_of Field = encodeset.Field
item_kind_of ShouldBeBits = encodeset.ShouldBeBits
