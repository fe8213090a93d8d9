use Rattle.std.proofs.Common.{◌≡◌, ◌+◌, drop}
use Rattle.list_words.specs.Scans.{run}
use Rattle.list_words.proofs.tokens.behind_run.Given as goal

abbrev pub invariant-loop-place : goal.invariant-loop-place
invariant-loop-place l = l.place + run (drop l.place l.line) ≡ l.at + run (drop l.at l.line)
