-- What states and the entries of a configuration's map stand for.
use Rattle.std.specs.Prelude.{Bool, List, map}
use Rattle.mrs_names.specs.declared.name_id.NameId.{NameId}
use Rattle.spec_expressions.specs.Scope as scope
use Rattle.ast_eval.specs.declared.state.State.{State}
use Rattle.ast_eval.specs.declared.state.State.TheVariants.{Flag}
use Rattle.ast_eval.specs.Choices.{Choices}

abbrev pub state_told : State → scope.State
state_told (Flag on) = scope.Flag on

abbrev pub choices_of : List (NameId × State) → List Bool → Choices
choices_of entries atoms = record { names = map (λ e. e.0.0) entries; states = map (λ e. state_told e.1) entries; atoms = atoms }
