use Rattle.feat_model.proofs.translation.+formula.Given as goal

abbrev pub decreases-formula : goal.decreases-formula
decreases-formula l = l.e.0
