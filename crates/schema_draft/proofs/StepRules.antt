-- Steps of walks in a row, and names that keep their numbers, for readers that put something.
use Rattle.mrs_names.proofs.PlaceLaws.{IsExtended-refl, IsExtended-trans}
use Rattle.spec_walk.proofs.WalkLaws.{gives-then}
use Rattle.mrs_walk.proofs.AnswerLaws.{Fails-then}

pub ruleset steps = (IsExtended-refl, IsExtended-trans, gives-then, Fails-then)
