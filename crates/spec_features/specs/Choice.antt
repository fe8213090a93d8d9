-- The first configuration that fits, as it is found: by going through all lists of states in order.
use Rattle.std.specs.Prelude.{ℕ, zero, suc, Bool, true, false, ◌&&◌, List, [], ◌∷◌, ◌++◌, map, zip, take, drop, length, find, Option, option_map, bytes_eq}
use Rattle.std.specs.List.{list_all}
use Rattle.spec_refutation.specs.First.{assignment}
use Rattle.spec_expressions.specs.Scope.{Flag, Configuration}
use Rattle.spec_features.specs.Formula.{holds}
use Rattle.spec_features.specs.Theory.{TheoryOf, states}
use Rattle.spec_features.specs.Fits.{PinOf, agrees}

-- all lists of so many states, those in which the first is on before those in which it is off
abbrev pub all_states : ℕ → List (List Bool)
all_states zero = [] ∷ []
all_states (suc n) = map (λ g. true ∷ g) (all_states n) ++ map (λ g. false ∷ g) (all_states n)

-- whether every constraint holds, and every pinned parameter has its state
abbrev pub is_fitting : {N : Type 0} → (N → N → Bool) → TheoryOf N → List (PinOf N) → List Bool → Bool
is_fitting same t pins g = list_all (holds (assignment g)) t.constraints && list_all (agrees same t.names g) pins

abbrev pub first_fitting : {N : Type 0} → (N → N → Bool) → TheoryOf N → List (PinOf N) → Option (List Bool)
first_fitting same t pins = find (is_fitting same t pins) (all_states (states t))

-- a list of states as a configuration: the parameters' states come first, and then those of the atoms
abbrev pub configuration_by : TheoryOf (List ℕ) → List Bool → Configuration
configuration_by t g = record {
  parameters = map (λ p. record { name = p.0; state = Flag p.1 }) (zip t.names (take (length t.names) g));
  atoms = drop (length t.names) g;
}

-- the configuration that is in use: the first that fits, if one does
abbrev pub first_configuration : TheoryOf (List ℕ) → List (PinOf (List ℕ)) → Option Configuration
first_configuration t pins = option_map (configuration_by t) (first_fitting bytes_eq t pins)
