-- What a look at clauses tells.
use Rattle.std.specs.Prelude.{◌≡◌, ℤ, true, false, List, Some, ⊤}
use Rattle.std.specs.Option.{option_map_or}
use Rattle.spec_refutation.specs.Derivation.{has, open_literals, the_only, falsified, clause_numbered, the_open}
use Rattle.feat_solve.specs.declared.looking.Seen.{Seen}
use Rattle.feat_solve.specs.declared.looking.Seen.TheVariants.{Falsified, Forcing, Other}
use Rattle.feat_solve.specs.declared.looking.Look.{Look}
use Rattle.feat_solve.specs.declared.looking.Look.TheVariants.{Conflict, Forced, Quiet}

-- of one clause under a set of true literals
abbrev pub SeenIs : List ℤ → List ℤ → Seen → Type 0
SeenIs set clause Falsified = falsified set clause ≡ true
SeenIs set clause (Forcing l) = (the_only (open_literals set clause) ≡ Some l) × (has set l ≡ false)
SeenIs set clause Other = falsified set clause ≡ false

-- Of the clauses that are known. That nothing was found tells nothing: where to look is a matter of speed.
abbrev pub LookIs : List (List ℤ) → List ℤ → Look → Type 0
LookIs known set (Conflict h) = option_map_or (falsified set) (clause_numbered known h) false ≡ true
LookIs known set (Forced l h) = (the_open known set h ≡ Some l) × (has set l ≡ false)
LookIs known set Quiet = ⊤
