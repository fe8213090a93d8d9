-- A configuration by texts of names.
use Rattle.std.specs.Prelude.{◌≡◌, ◌<◌, ◌^◌, ℕ, List, length, All}
use Rattle.spec_features.specs.Theory.{TheoryOf}
use Rattle.ast_eval.specs.Choices.{Choices}

-- the names of the parameters are held, each parameter has its state, and numbers of 32 bits count parameters and atoms
pub record IsKept (names : List (List ℕ)) (config : Choices) : Type 0 where
  pub as_many : length config.states ≡ length config.names
  pub held : All (λ name. name < length names) config.names
  pub few_parameters : length config.names < 2 ^ 32
  pub few : length config.atoms < 2 ^ 32

-- a configuration of features: it has their boolean parameters, in order, whose names are held, each with its state, and as many
-- atoms
pub record IsChosen (names : List (List ℕ)) (t : TheoryOf ℕ) (config : Choices) : Type 0 where
  pub names_are : config.names ≡ t.names
  pub as_many : length config.states ≡ length t.names
  pub atoms : length config.atoms ≡ t.atoms
  pub few : t.atoms < 2 ^ 32
  pub held : All (λ name. name < length names) config.names
