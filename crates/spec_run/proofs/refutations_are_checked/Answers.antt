use Rattle.spec_run.proofs.First.{refutations_are_checked, refutations_are_told}
use Rattle.spec_run.proofs.refutations_are_checked.Goals as goal

pub returns-clause-checked : goal.returns-clause-checked
returns-clause-checked c = refutations_are_checked

pub returns-clause-told : goal.returns-clause-told
returns-clause-told c = refutations_are_told
