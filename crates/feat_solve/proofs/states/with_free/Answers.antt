use Rattle.std.proofs.Common.{◌++◌, ◌∷◌, [], true, ap, ◌∙◌, arith}
use Rattle.feat_solve.proofs.Beyond.{one_more}
use Rattle.feat_solve.proofs.states.with_free.Goals as goal

pub loop-free-preserved : goal.loop-free-preserved
loop-free-preserved c =
    let i = c.loop-free.invariant in (
      omega (arith, i.0),
      c.in_ok-push.ensures.items ∙ ap (λ t. t ++ (true ∷ [])) i.1 ∙ one_more c.args.states.items c.loop-free._free i.0,
    )
