use Rattle.std.proofs.Common.{refl, sym}
use Rattle.std.proofs.lemmas.Iterator.Adapters.{position_from-zero}
use Rattle.feat_model.proofs.clauses.put_pins.Goals as goal

pub loop-k-init : goal.loop-k-init
loop-k-init c = record { clauses = refl; last = refl; known = sym (position_from-zero _ c.args.pins.now) }
