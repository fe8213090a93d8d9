use Rattle.feat_solve.proofs.Searches.{search_falls}
use Rattle.feat_solve.proofs.search.Search.run.Goals as goal

pub turns-smaller : goal.turns-smaller
turns-smaller c =
    let told = c.in_ok-end.ensures in
    let h = rw c.in_default.is at told.turn in
    search_falls c.args.self.now c.turns.self c.take_turn.new.self c.turns.invariant.keeps told.keeps h.0 h.1
