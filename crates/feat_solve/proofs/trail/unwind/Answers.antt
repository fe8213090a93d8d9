use Rattle.std.proofs.Common.{◌≡◌, ◌<◌, ◌++◌, ◌∷◌, [], min, nat_abs, true, not, sym, ap, ◌∙◌, arith}
use Rattle.std.specs.Prelude.{is_some}
use Rattle.feat_solve.specs.Trail.{Entry}
use Rattle.feat_solve.proofs.Tabled.{tabled_popped, below_popped}
use Rattle.feat_solve.proofs.trail.unwind.Goals as goal

pub returns-then-is_none-clause-tabled : goal.returns-then-is_none-clause-tabled
returns-then-is_none-clause-tabled c =
    let e : Entry = (c.entry.inside.literal, c.entry.inside.reason) in
    let is : c.down.entries.items ≡ c.pop.new.self.items ++ (e ∷ []) =
    c.in-Some.ensures.items ∙ ap (λ x. c.pop.new.self.items ++ (x ∷ [])) (sym c.entry.view_is) in
    let size : 0 < nat_abs c.entry.inside.literal = omega (arith, c.variable.ensures.value, c.variable.ensures.some) in
    tabled_popped c.down.entries.items c.pop.new.self.items e c.down.on c.unmark.new.self c.down.least c.min.result is
    c.down.invariant.1 c.unmark.ensures size (c.min.ensures ∙ ap (min c.down.least) c.variable.ensures.value)

pub down-preserved : goal.down-preserved
down-preserved c =
    let e : Entry = (c.entry.inside.literal, c.entry.inside.reason) in
    let is : c.down.entries.items ≡ c.pop.new.self.items ++ (e ∷ []) =
    c.in-Some.ensures.items ∙ ap (λ x. c.pop.new.self.items ++ (x ∷ [])) (sym c.entry.view_is) in
    let size : 0 < nat_abs c.entry.inside.literal = omega (arith, c.variable.ensures.value, c.variable.ensures.some) in
    let forced : is_some c.entry.inside.reason ≡ true = c.is_none.ensures ∙ ap not c.if-is_none.false in (
      sym (below_popped c.down.entries.items c.pop.new.self.items c.entry.inside.literal c.entry.inside.reason is forced) ∙ c.down.invariant.0,
      tabled_popped c.down.entries.items c.pop.new.self.items e c.down.on c.unmark.new.self c.down.least c.min.result is
          c.down.invariant.1 c.unmark.ensures size (c.min.ensures ∙ ap (min c.down.least) c.variable.ensures.value),
    )
