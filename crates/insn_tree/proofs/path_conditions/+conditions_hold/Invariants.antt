use Rattle.insn_tree.proofs.path_conditions.+conditions_hold.Given as goal

abbrev pub decreases-conditions_hold : goal.decreases-conditions_hold
decreases-conditions_hold l = l.n.0
