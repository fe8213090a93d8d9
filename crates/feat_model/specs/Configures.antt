-- What features and pins come to.
use Rattle.std.specs.Prelude.{◌≡◌, ℕ, ◌++◌, nat_eq, Bool, List, length, map, ⊤}
use Rattle.spec_refutation.specs.Reading.{IsLog}
use Rattle.spec_refutation.specs.Refutation.{Refutes}
use Rattle.spec_expressions.specs.Scope.{Flag}
use Rattle.spec_features.specs.Theory.{TheoryOf}
use Rattle.spec_features.specs.Fits.{PinOf, IsFirstFitting}
use Rattle.spec_features.specs.Clauses.{variables, clauses}
use Rattle.ast_eval.specs.Choices.{Choices}
use Rattle.feat_model.specs.declared.outcome.Outcome.{Outcome}
use Rattle.feat_model.specs.declared.outcome.Outcome.TheVariants.{Chosen, Refuted}

-- a configuration says whether its parameters and atoms are on, and these states are the first that fit
pub record IsChosen (t : TheoryOf ℕ) (pins : List (PinOf ℕ)) (c : Choices) : Type 0 where
  pub names_are : c.names ≡ t.names
  pub flags : List Bool
  pub states_are : c.states ≡ map Flag flags
  pub as_many : length flags ≡ length t.names
  pub first : IsFirstFitting nat_eq t pins (flags ++ c.atoms)

-- a log refutes the clauses, and can be written with them
abbrev pub Configures : TheoryOf ℕ → List (PinOf ℕ) → Outcome → Type 0
Configures t pins (Chosen config) = IsChosen t pins config
Configures t pins (Refuted cnf log) = (cnf ≡ (variables t, clauses nat_eq t pins)) × Refutes cnf.1 log × IsLog cnf.0 cnf.1 log

abbrev pub IsRefused : Outcome → Type 0
IsRefused (Chosen config) = ⊥
IsRefused (Refuted cnf log) = ⊤
