use Rattle.spec_instructions.proofs.LabelLaws.{labels_find_leaves, labels_tell_leaves}
use Rattle.spec_instructions.proofs.laws.labels_tell_leaves.Goals as goal

pub returns-clause-first : goal.returns-clause-first
returns-clause-first c = labels_find_leaves

pub returns-clause-distinct : goal.returns-clause-distinct
returns-clause-distinct c = labels_tell_leaves
