use Rattle.std.proofs.Common.{◌-◌, length, reverse, ap, ◌∙◌}
use Rattle.std.specs.Prelude.{slice_get}
use Rattle.feat_solve.specs.Trail.{last_decided}
use Rattle.feat_solve.proofs.Tabled.{last_kept}
use Rattle.feat_solve.proofs.trail.Trail.last_decision.Goals as goal

pub returns : goal.returns
returns c =
    c.copied.ensures ∙ c.last.ensures.value
    ∙ ap (λ ds. slice_get ds (length ds - 1)) c.deref.ensures.value
    ∙ last_kept (reverse c.self.inside.entries.items) c.self.inside.decided.items c.self.invariant.levels
    ∙ ap last_decided c.self.view_is
