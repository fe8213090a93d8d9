-- A status without a text.
use Rattle.std.proofs.Common.{◌≡◌, ◌∙◌, sym, ap, subst, []}
use Rattle.mrs_query.specs.declared.status.Status.{Status}
use Rattle.mrs_query.specs.declared.ended.Ended.{Ended}
use Rattle.mrs_query.specs.End.{end_of}
use Rattle.mrs_query.specs.Plainly.{IsPlainly}
use Rattle.mrs_query.specs.Runs.{HasText, told_as}

-- it is told without one
pub plainly_told : (status : Status) (ended : Ended) → IsPlainly status ended → told_as ended ≡ end_of status []
plainly_told status ended is = ap (end_of ended.status) is.none ∙ ap (λ s. end_of s []) is.status_is

-- and has none, where it needs none
pub plainly_has : (status : Status) (ended : Ended) → HasText status [] → IsPlainly status ended → HasText ended.status ended.text.items
plainly_has status ended empty is = subst (HasText ended.status) (sym is.none) (subst (λ s. HasText s []) (sym is.status_is) empty)
