use Rattle.std.proofs.Common.{◌≡◌}
use Rattle.spec_command.specs.Setting.{value_in}
use Rattle.mrs_command.proofs.pairs.Pairs.value.Given as goal

abbrev pub invariant-loop-found : goal.invariant-loop-found
invariant-loop-found l = value_in l.key l.found-iterator ≡ value_in l.key l.self
