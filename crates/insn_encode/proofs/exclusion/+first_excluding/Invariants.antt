use Rattle.insn_encode.proofs.exclusion.+first_excluding.Given as goal

abbrev pub decreases-first_excluding : goal.decreases-first_excluding
decreases-first_excluding l = l.n.0
