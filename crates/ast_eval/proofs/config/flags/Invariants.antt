use Rattle.std.proofs.Common.{◌≡◌, ◌++◌, map, drop}
use Rattle.spec_expressions.specs.Scope.{Flag}
use Rattle.ast_eval.specs.ConfigView.{state_told}
use Rattle.ast_eval.proofs.config.flags.Given as goal

-- with those that are left, all flags are there
abbrev pub invariant-loop-on : goal.invariant-loop-on
invariant-loop-on l = map state_told l.states.items ++ map Flag (drop l.on-index l.flags) ≡ map Flag l.flags
