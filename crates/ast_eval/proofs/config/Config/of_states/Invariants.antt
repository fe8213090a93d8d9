use Rattle.std.proofs.Common.{◌≡◌, ◌++◌, map, drop}
use Rattle.ast_eval.proofs.config.Config.of_states.Given as goal

-- what was put and what is left are all names with all states
abbrev pub invariant-loop-i : goal.invariant-loop-i
invariant-loop-i l = record {
  names : map (λ e. e.0) l.chosen.entries ++ drop l.i l.fn.names.items ≡ l.fn.names.items;
  states : map (λ e. e.1) l.chosen.entries ++ drop l.i l.fn.states.items ≡ l.fn.states.items;
}
