use Rattle.spec_bits.proofs.ItemLaws.{item_holds-each}
use Rattle.spec_bits.proofs.items_hold_by_bits.Goals as goal

pub returns : goal.returns
returns c = λ it w. item_holds-each it w
