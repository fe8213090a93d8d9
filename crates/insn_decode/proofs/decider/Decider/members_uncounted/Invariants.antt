use Rattle.insn_decode.proofs.decider.Decider.members_uncounted.Given as goal

abbrev pub ghosts-members_from : goal.ghosts-members_from
ghosts-members_from a = record { name = a.blank.name; parts = a.blank.parts }
