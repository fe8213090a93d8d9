use Rattle.spec_instructions.proofs.AliasLaws.{aliases_are_below_leaves, aliases_are_all, labels_tell_aliases}
use Rattle.spec_instructions.proofs.laws.aliases_are_those_of_leaves.Goals as goal

pub returns-clause-below : goal.returns-clause-below
returns-clause-below c = aliases_are_below_leaves

pub returns-clause-all : goal.returns-clause-all
returns-clause-all c = aliases_are_all

pub returns-clause-labels : goal.returns-clause-labels
returns-clause-labels c = labels_tell_aliases
