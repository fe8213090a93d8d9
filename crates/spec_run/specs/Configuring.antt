-- `config`: the configuration in use.
use Rattle.std.specs.Prelude.{ℕ, ◌+◌, Bool, true, false, List, [], ◌∷◌, ◌++◌, codes, decimal, flat_map}
use Rattle.spec_expressions.specs.Scope.{State, Flag, Parameter, Configuration}
use Rattle.spec_run.specs.End.{Done}
use Rattle.spec_run.specs.Work.{Outcome}

abbrev pub flag_text : Bool → List ℕ
flag_text true = codes " on\n"
flag_text false = codes " off\n"

abbrev pub state_text : State → List ℕ
state_text (Flag on) = flag_text on

-- a line with the name of a parameter and its state
abbrev pub parameter_line : Parameter → List ℕ
parameter_line p = p.name ++ state_text p.state

-- a line `atom` for each atom, with its number and its state, the first of these having number k
abbrev pub atom_lines : ℕ → List Bool → List ℕ
atom_lines k [] = []
atom_lines k (on ∷ atoms) = (codes "atom " ++ (decimal k ++ flag_text on)) ++ atom_lines (k + 1) atoms

-- the parameters in order, and then the atoms in order, from 0
abbrev pub configuration_lines : Configuration → List ℕ
configuration_lines g = flat_map parameter_line g.parameters ++ atom_lines 0 g.atoms

abbrev pub config_outcome : Configuration → Outcome
config_outcome g = record { end = Done; out = configuration_lines g }
