use Rattle.std.proofs.Common.{reverse, sym, ap, ◌∙◌}
use Rattle.std.specs.Vec.{vec_len}
use Rattle.feat_solve.specs.Trail.{decisions, last_decided}
use Rattle.feat_solve.proofs.Tabled.{popped_decision}
use Rattle.feat_solve.proofs.trail.Trail.take_back.Goals as goal

pub invariant_of-self : goal.invariant_of-self
invariant_of-self c =
    let p = popped_decision (reverse c.self.inside.entries.items) c.self.inside.decided.items c.pop.new.self.items c.pop.result (vec_len c.self.inside.decided) c.self.invariant.levels
    c.pop.ensures.items c.self.inside.decided.ok.0 c.pop.ensures.variant in
    record { tabled = c.unwind.ensures.tabled; levels = p.1 ∙ ap decisions (sym c.unwind.ensures.trail) }

pub returns-clause-decision : goal.returns-clause-decision
returns-clause-decision c =
    let p = popped_decision (reverse c.self.inside.entries.items) c.self.inside.decided.items c.pop.new.self.items c.pop.result (vec_len c.self.inside.decided) c.self.invariant.levels
    c.pop.ensures.items c.self.inside.decided.ok.0 c.pop.ensures.variant in
    p.0 ∙ ap last_decided c.self.view_is
