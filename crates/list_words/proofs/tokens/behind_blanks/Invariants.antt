use Rattle.std.proofs.Common.{◌≡◌, ◌+◌, drop}
use Rattle.list_words.specs.Scans.{blanks}
use Rattle.list_words.proofs.tokens.behind_blanks.Given as goal

abbrev pub invariant-loop-place : goal.invariant-loop-place
invariant-loop-place l = l.place + blanks (drop l.place l.line) ≡ l.at + blanks (drop l.at l.line)
