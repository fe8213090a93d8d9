use Rattle.std.proofs.Common.{◌≡◌, drop}
use Rattle.ast_eval.proofs.LastLaws.{bounds_in, bounds_left}
use Rattle.ast_eval.proofs.deepest.last_range.Given as goal

-- what is left and what was found tell the last item of all
abbrev pub invariant-loop-it : goal.invariant-loop-it
invariant-loop-it l = bounds_left l.name.0 (drop l.it-index l.items) l.found ≡ bounds_in l.fn.name.0 l.fn.items
