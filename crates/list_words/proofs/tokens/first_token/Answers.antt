use Rattle.list_words.proofs.TokenLaws.{none_left, some_left}
use Rattle.list_words.proofs.tokens.first_token.Goals as goal

pub returns-then-start-line : goal.returns-then-start-line
returns-then-start-line c = none_left c.args.line.now c.args.at c.behind_blanks-start.result c.behind_blanks-start.ensures.place c.if-start-line.true

pub returns : goal.returns
returns c = (some_left c.args.line.now c.args.at c.behind_blanks-start.result c.behind_blanks-start.ensures.place c.behind_run-end.result c.behind_run-end.ensures.place c.if-start-line.false, c.behind_run-end.ensures.within)
