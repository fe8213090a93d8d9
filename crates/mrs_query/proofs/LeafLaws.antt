-- A leaf that is found is shown.
use Rattle.std.proofs.Common.{◌≡◌, ℕ, Option, subst}
use Rattle.spec_io.specs.States.{Writing}
use Rattle.spec_decode.specs.Machine.{Machine}
use Rattle.spec_run.specs.End.{End}
use Rattle.spec_run.specs.Commands.{leaf_outcome}
use Rattle.mrs_query.specs.Once.{EndsOnce}

pub leaf_ends : (machine : Machine) (found other : Option ℕ) (w w1 : Writing) (end : End) → found ≡ other → EndsOnce w w1 (leaf_outcome machine found) end → EndsOnce w w1 (leaf_outcome machine other) end
leaf_ends machine found other w w1 end is h = subst (λ o. EndsOnce w w1 (leaf_outcome machine o) end) is h
