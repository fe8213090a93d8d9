use Rattle.list_words.specs.Givens.{IsSoFar}
use Rattle.list_words.proofs.given.read_given.Given as goal

abbrev pub invariant-loop-token : goal.invariant-loop-token
invariant-loop-token l = IsSoFar l.names l.fields l.given l.token-iterator l.fn.tokens
