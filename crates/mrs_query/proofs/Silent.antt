-- Statuses of which nothing is said.
use Rattle.std.proofs.Common.{◌≡◌, ℕ, List, [], ◌∷◌, length, ap, sym, ◌∙◌, arith}
use Rattle.spec_run.specs.End.{message}
use Rattle.mrs_query.specs.declared.status.Status.{Status}
use Rattle.mrs_query.specs.declared.status.Status.TheVariants as status
use Rattle.mrs_query.specs.declared.status.QuestionFault.TheVariants as question
use Rattle.mrs_query.specs.End.{end_of}
use Rattle.mrs_query.specs.Runs.{HasText, IsLogText}

not_empty : (x : ℕ) (xs : List ℕ) → x ∷ xs ≡ [] → ⊥
not_empty x xs h = let n : length (x ∷ xs) ≡ 0 = ap length h in absurd (omega (arith, n))

-- a log's text is not empty
log_is_said : (steps : ℕ) (text : List ℕ) → IsLogText steps text → text ≡ [] → ⊥
log_is_said steps text h none = not_empty 112 _ (sym h.refutation.text_is ∙ none)

-- whatever its text is, nothing is said of a status of which nothing is said with some text that it may have
pub silent : (status : Status) (text other : List ℕ) → HasText status text → message (end_of status text) ≡ [] → message (end_of status other) ≡ []
silent status.Done text other has none = none
silent (status.Ragged rest) text other has none = none
silent (status.Usage place) text other has none = none
silent (status.Document which fault) text other has none = none
silent (status.Refuted steps) text other has none = absurd (log_is_said steps text has none)
silent (status.Question (question.NoFeature pin)) text other has none = none
silent (status.Question question.NoLeaf) text other has none = none
silent (status.Question (question.Line line fault)) text other has none = absurd (not_empty 108 _ none)
silent (status.ReadFault which) text other has none = none
silent status.WriteFault text other has none = none
silent (status.Limit which) text other has none = none
silent status.NoMemory text other has none = none
