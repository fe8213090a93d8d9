use Rattle.std.proofs.Common.{refl, sym, ◌∙◌}
use Rattle.feat_model.proofs.Leaves.{leaf_met}
use Rattle.feat_model.proofs.translation.leaf.Goals as goal

pub returns-clause-met : goal.returns-clause-met
returns-clause-met c =
    leaf_met _ c.args.scope.now.classes.now c.args.scope.now.names.now.keys c.args.atoms.now.found.items _ c.args.atoms.now.numbers.items c.args.e _ _ _ c.requires.scope c.requires.numbered c.requires.within (sym c.parameter_of.ensures.place ∙ c.in_default.is) c.len-before.ensures.len
    c.in_ok-k.ensures.number c.in_ok-k.ensures.found refl
