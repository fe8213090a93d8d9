use Rattle.std.proofs.Common.{ap, is_some}
use Rattle.release_opening.proofs.given.give_features.Goals as goal

pub returns-in-Some-clause-named : goal.returns-in-Some-clause-named
returns-in-Some-clause-named g c = λ asked named. c.open_features.ensures.named asked (named (ap is_some c.in-Some.is))
