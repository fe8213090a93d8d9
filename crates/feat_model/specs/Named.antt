-- What features and pins come to, by the texts of names.
use Rattle.std.specs.Prelude.{◌≡◌, ◌<◌, ℕ, ℤ, List, length, map, bytes_eq, nat_eq, Some, None, Result, Ok, Err, ⊤}
use Rattle.std.specs.List.{AllByRecursion}
use Rattle.spec_refutation.specs.Derivation.{Step}
use Rattle.spec_refutation.specs.Reading.{IsLog}
use Rattle.spec_refutation.specs.Refutation.{Refutes}
use Rattle.spec_features.specs.Features.{FeaturesOf, EachName, with_names}
use Rattle.spec_features.specs.Theory.{TheoryOf, theory}
use Rattle.spec_features.specs.Fits.{PinOf, unknown_pin}
use Rattle.spec_features.specs.Choice.{first_configuration}
use Rattle.spec_features.specs.Clauses.{variables, clauses}
use Rattle.mrs_names.specs.Texts.{AreNames}
use Rattle.mrs_arena.specs.Placed.{text_of}
use Rattle.ast_eval.specs.Choices.{configuration_of}
use Rattle.feat_model.specs.declared.faults.ModelFault.{ModelFault}
use Rattle.feat_model.specs.declared.faults.ModelFault.TheVariants.{UnknownFeature, NoMemory}
use Rattle.feat_model.specs.declared.outcome.Outcome.{Outcome}
use Rattle.feat_model.specs.declared.outcome.Outcome.TheVariants.{Chosen, Refuted}

-- pins with the texts of their names
abbrev pub pins_in : List (List ℕ) → List (PinOf ℕ) → List (PinOf (List ℕ))
pins_in names pins = map (λ pin. (text_of names pin.0, pin.1)) pins

-- the names of features and of pins are held
pub record AreHeld (names : List (List ℕ)) (f : FeaturesOf ℕ) (pins : List (PinOf ℕ)) : Type 0 where
  pub names_are : AreNames names
  pub features_are : EachName (λ n. n < length names) f
  pub pins_are : AllByRecursion (λ (pin : PinOf ℕ). pin.0 < length names) pins

-- none fits, and the log refutes the clauses, with which it can be written
pub record IsRefutedBy (t : TheoryOf (List ℕ)) (pins : List (PinOf (List ℕ))) (cnf : ℕ × List (List ℤ)) (log : List Step) : Type 0 where
  pub none : first_configuration t pins ≡ None
  pub clauses_are : cnf ≡ (variables t, clauses bytes_eq t pins)
  pub refutes : Refutes cnf.1 log
  pub written : IsLog cnf.0 cnf.1 log

-- what is chosen is the configuration in use
abbrev pub ComesTo : List (List ℕ) → TheoryOf (List ℕ) → List (PinOf (List ℕ)) → Outcome → Type 0
ComesTo names t pins (Chosen config) = first_configuration t pins ≡ Some (configuration_of (text_of names) config)
ComesTo names t pins (Refuted cnf log) = IsRefutedBy t pins cnf log

-- where each pin names a boolean parameter, something holds of what comes; else the fault is that of the first that does not,
-- unless memory ran out
abbrev pub AnswersBy : {A : Type 0} → (A → Type 0) → TheoryOf (List ℕ) → List (PinOf (List ℕ)) → Result A ModelFault → Type 0
AnswersBy Holds t pins (Ok come) = (unknown_pin bytes_eq t.names pins ≡ None) × Holds come
AnswersBy Holds t pins (Err (UnknownFeature k)) = unknown_pin bytes_eq t.names pins ≡ Some k
AnswersBy Holds t pins (Err NoMemory) = ⊤

abbrev pub Answers : List (List ℕ) → TheoryOf (List ℕ) → List (PinOf (List ℕ)) → Result Outcome ModelFault → Type 0
Answers names t pins result = AnswersBy (ComesTo names t pins) t pins result

-- so it is of features with the texts of their names, whatever these are, as long as each number has its own
abbrev pub IsNamed : TheoryOf ℕ → List (PinOf ℕ) → Result Outcome ModelFault → Type 0
IsNamed t pins result =
    (names : List (List ℕ)) (f : FeaturesOf ℕ) → AreHeld names f pins → t ≡ theory nat_eq f
    → Answers names (theory bytes_eq (with_names (text_of names) f)) (pins_in names pins) result

-- clauses with the number of all variables are those of features and pins
abbrev pub AreClauses : TheoryOf (List ℕ) → List (PinOf (List ℕ)) → ℕ × List (List ℤ) → Type 0
AreClauses t pins cnf = cnf ≡ (variables t, clauses bytes_eq t pins)

-- they too are those of features with the texts of their names, whatever these are, as long as each number has its own
abbrev pub AreNamedClauses : TheoryOf ℕ → List (PinOf ℕ) → Result (ℕ × List (List ℤ)) ModelFault → Type 0
AreNamedClauses t pins result =
    (names : List (List ℕ)) (f : FeaturesOf ℕ) → AreHeld names f pins → t ≡ theory nat_eq f
    → AnswersBy (AreClauses (theory bytes_eq (with_names (text_of names) f)) (pins_in names pins)) (theory bytes_eq (with_names (text_of names) f)) (pins_in names pins) result
