use Rattle.spec_run.proofs.First.{first_is_in_use, none_is_in_use, pin_is_unknown}
use Rattle.spec_run.proofs.Settled.{in_use_on_machine, in_use_of_document}
use Rattle.spec_run.proofs.first_is_in_use.Goals as goal

pub returns-clause-first : goal.returns-clause-first
returns-clause-first c = first_is_in_use

pub returns-clause-none : goal.returns-clause-none
returns-clause-none c = none_is_in_use

pub returns-clause-unknown : goal.returns-clause-unknown
returns-clause-unknown c = pin_is_unknown

pub returns-clause-machine : goal.returns-clause-machine
returns-clause-machine c = in_use_on_machine

pub returns-clause-document : goal.returns-clause-document
returns-clause-document c = in_use_of_document
