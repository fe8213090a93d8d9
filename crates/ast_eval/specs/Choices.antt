-- What a configuration chooses, where names are numbers, and the configuration that it stands for.
use Rattle.std.specs.Prelude.{◌≡◌, refl, ℕ, Bool, ◌==◌, List, map, zip, Option, Some, option_and_then}
use Rattle.std.specs.Coded.{Coded, code_by, coded_ℕ, coded_bool, coded_list, coded×}
use Rattle.std.specs.Map.{lookup}
use Rattle.spec_expressions.specs.Scope.{State, Flag, Parameter, Configuration}

-- the parameters' names with as many states, and whether each free atom holds
pub record Choices : Type 0 where
  pub names : List ℕ
  pub states : List State
  pub atoms : List Bool

-- the state of the parameter of that name
abbrev pub state_in : ℕ → Choices → Option State
state_in name c = lookup (λ other. name == other) (zip c.names c.states)

-- whether a boolean parameter is on
abbrev pub flag : State → Option Bool
flag (Flag on) = Some on

-- whether the boolean parameter of that name is on
abbrev pub flag_in : ℕ → Choices → Option Bool
flag_in name c = option_and_then flag (state_in name c)

-- a parameter and its state, with the text of its name
abbrev pub parameter_of : (ℕ → List ℕ) → ℕ × State → Parameter
parameter_of text chosen = record { name = text chosen.0; state = chosen.1 }

-- the configuration by these texts of names
abbrev pub configuration_of : (ℕ → List ℕ) → Choices → Configuration
configuration_of text c = record { parameters = map (parameter_of text) (zip c.names c.states); atoms = c.atoms }

-- ---- choices are stored as lists of numbers and bools

abbrev pub is_on : State → Bool
is_on (Flag on) = on

pub state_back : (state : State) → Flag (is_on state) ≡ state
state_back (Flag on) = refl

abbrev pub state_code : Coded State
state_code = code_by Bool coded_bool is_on Flag state_back

abbrev pub choices_code : Coded Choices
choices_code =
    code_by (List ℕ × (List State × List Bool)) (coded× (coded_list coded_ℕ) (coded× (coded_list state_code) (coded_list coded_bool))) (λ c. (c.names, (c.states, c.atoms))) (λ p. record { names = p.0; states = p.1.0; atoms = p.1.1 }) (λ _. refl)
