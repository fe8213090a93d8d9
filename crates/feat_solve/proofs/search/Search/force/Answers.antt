use Rattle.std.proofs.Common.{◌<◌, List, sym, subst}
use Rattle.feat_solve.specs.Trail.{Entry, IsState, weight}
use Rattle.feat_solve.proofs.Kept.{state_forced}
use Rattle.feat_solve.proofs.search.Search.force.Goals as goal

pub returns-clause-turn : goal.returns-clause-turn
returns-clause-turn c =
    let s = c.args.self.now in
    let ready = c.requires.ready in
    let P : List Entry → Type 0 = λ es. IsState s.vars s.clauses.now s.steps.items es × (weight s.vars s.trail < weight s.vars es) in
    let forced = state_forced s.vars s.clauses.now s.steps.items s.trail ready.state ready.within c.args.literal c.args.number c.requires.forced.0 c.requires.forced.1 in
    let h = subst P (sym c.in_ok-force.ensures) forced in
    (record { vars = ready.vars; within = ready.within; few = ready.few; state = h.0 }, h.1)
