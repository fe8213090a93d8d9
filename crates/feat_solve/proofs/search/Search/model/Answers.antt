use Rattle.feat_solve.proofs.Kept.{state_found}
use Rattle.feat_solve.proofs.search.Search.model.Goals as goal

pub returns : goal.returns
returns c =
    let s = c.args.self.now in
    let h = c.requires in
    state_found s.vars s.clauses.now s.steps.items s.trail h.0.state h.0.within h.1 h.2 c.in_ok-states.states.items c.in_ok-states.ensures
