-- A machine and a configuration, stored as lists that give it back, by which what was opened stands for one.
use Rattle.std.specs.Prelude.{◌≡◌, ℕ, List, Bool, refl}
use Rattle.std.specs.Coded.{Coded, code_by, coded_ℕ, coded_bool, coded_list, coded×}
use Rattle.spec_expressions.specs.Scope.{State, Flag, Parameter, Configuration}
use Rattle.spec_instructions.specs.Tree.{Own}
use Rattle.spec_instructions.specs.Aliases.{AliasPath}
use Rattle.spec_instructions.specs.Codes.{own_code}
use Rattle.spec_decode.specs.Machine.{Machine}

abbrev is_on : State → Bool
is_on (Flag b) = b

pub state_back : (state : State) → Flag (is_on state) ≡ state
state_back (Flag b) = refl

abbrev pub state_code : Coded State
state_code = code_by Bool coded_bool is_on Flag state_back

abbrev pub parameter_code : Coded Parameter
parameter_code = code_by (List ℕ × State) (coded× (coded_list coded_ℕ) state_code) (λ p. (p.name, p.state)) (λ p. record { name = p.0; state = p.1 }) (λ _. refl)

abbrev pub configuration_code : Coded Configuration
configuration_code =
    code_by (List Parameter × List Bool) (coded× (coded_list parameter_code) (coded_list coded_bool)) (λ g. (g.parameters, g.atoms)) (λ p. record { parameters = p.0; atoms = p.1 }) (λ _. refl)

abbrev pub alias_code : Coded AliasPath
alias_code = code_by (ℕ × (List Own × Own)) (coded× coded_ℕ (coded× (coded_list own_code) own_code)) (λ a. (a.leaf, (a.above, a.own))) (λ p. record { leaf = p.0; above = p.1.0; own = p.1.1 }) (λ _. refl)

abbrev pub machine_code : Coded Machine
machine_code =
    code_by (List (List Own) × (List AliasPath × Configuration)) (coded× (coded_list (coded_list own_code)) (coded× (coded_list alias_code) configuration_code))
    (λ m. (m.paths, (m.aliases, m.configuration))) (λ p. record { paths = p.0; aliases = p.1.0; configuration = p.1.1 }) (λ _. refl)
