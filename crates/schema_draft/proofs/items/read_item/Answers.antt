use Rattle.mrs_walk.specs.Here.{spot_of}
use Rattle.schema_draft.proofs.ItemLaws.{item_returns}
use Rattle.schema_draft.proofs.items.read_item.Goals as goal

pub returns-clause-walk : goal.returns-clause-walk
returns-clause-walk c = item_returns c.item.result c.args.draft.now c.read_parts.new.draft c.item.new.self (spot_of c.args.here.now) _ c.in_ok-it.it c.in_ok-kind.ensures c.in_ok-it.ensures.walk c.in_ok-it.ensures.nodes c.item.ensures.steps
