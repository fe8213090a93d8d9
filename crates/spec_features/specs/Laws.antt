-- What the definitions come to: of documents, of facts, and of clauses with the configurations that fit.
use Rattle.std.specs.Prelude.{◌≡◌, ◌↔◌, ℕ, Some, None, ◌≤◌, Bool, true, List, length, ◌++◌, take, sum_by, Ok, bytes_eq}
use Rattle.serde_json.specs.Data.{Data}
use Rattle.spec_walk.specs.Limits.{Counts, from_held, ◌>>=◌, judged}
use Rattle.spec_walk.specs.Walk.{events}
use Rattle.spec_walk.specs.Spot.{root}
use Rattle.spec_refutation.specs.Literals.{satisfies}
use Rattle.spec_refutation.specs.First.{assignment, IsFirst}
use Rattle.spec_expressions.specs.Expression.{Expr}
use Rattle.spec_features.specs.Fact.{same_fact, no_other}
use Rattle.spec_features.specs.Features.{FeaturesOf, Features}
use Rattle.spec_features.specs.Walk.{features}
use Rattle.spec_features.specs.Reading.{features_read}
use Rattle.spec_features.specs.Theory.{TheoryOf, theory, states, parts}
use Rattle.spec_features.specs.Fits.{PinOf, Fits, IsFirstFitting}
use Rattle.spec_features.specs.Choice.{first_fitting}
use Rattle.spec_features.specs.Clauses.{variables, clauses, connective_clauses}

-- two expressions state one fact exactly where they are equal and no Other stands in them
abbrev pub FactsAreEqual : Type 0
FactsAreEqual = (e f : Expr) → (same_fact bytes_eq e f ≡ true) ↔ ((e ≡ f) × (no_other e ≡ true))

-- states of parameters and atoms extend in exactly one way to the auxiliaries so that the clauses of the connectives hold;
-- with these states all clauses hold exactly where the configuration fits
pub record Extension {N : Type 0} (same : N → N → Bool) (f : FeaturesOf N) (g : List Bool) : Type 0 where
  pub auxiliaries : List Bool
  pub whole : length (g ++ auxiliaries) ≡ variables (theory same f)
  pub good : satisfies (assignment (g ++ auxiliaries)) (connective_clauses (theory same f)) ≡ true
  pub only : (others : List Bool) → length (g ++ others) ≡ variables (theory same f)
      → satisfies (assignment (g ++ others)) (connective_clauses (theory same f)) ≡ true → others ≡ auxiliaries
  pub exact : (pins : List (PinOf N)) → (satisfies (assignment (g ++ auxiliaries)) (clauses same (theory same f) pins) ≡ true) ↔ Fits same (theory same f) pins g

abbrev pub EachExtends : Type 0
EachExtends = (f : Features) (g : List Bool) → length g ≡ states (theory bytes_eq f) → Extension bytes_eq f g

-- the states of parameters and atoms in the first solution of the clauses are the first configuration that fits; and the
-- first configuration that fits, extended, is the first solution
pub record FirstsAgree {N : Type 0} (same : N → N → Bool) (f : FeaturesOf N) (pins : List (PinOf N)) : Type 0 where
  pub configuration : (all : List Bool) → IsFirst (variables (theory same f)) (clauses same (theory same f) pins) all
      → IsFirstFitting same (theory same f) pins (take (states (theory same f)) all)
  pub solution : (g : List Bool) → IsFirstFitting same (theory same f) pins g
      → (more : List Bool) × IsFirst (variables (theory same f)) (clauses same (theory same f) pins) (g ++ more)

abbrev pub FirstsAreFirst : Type 0
FirstsAreFirst = (f : Features) (pins : List (PinOf (List ℕ))) → FirstsAgree bytes_eq f pins

-- the events of the walk over a document, judged one after the other, end in the same counts or the same first fault
abbrev pub FirstFaultDecides : Type 0
FirstFaultDecides = (held : List (List ℕ)) (d : Data) → judged (events (features (root d))) (from_held held) ≡ (features_read held d >>= λ read. Ok read.1)

-- the connectives and parts under connectives of what a document gives are no more than the expressions that are counted while it is read
abbrev pub PartsAreCounted : Type 0
PartsAreCounted = (held : List (List ℕ)) (d : Data) (f : Features) (c : Counts) → features_read held d ≡ Ok (f, c) → sum_by parts f.constraints ≤ c.expressions

-- going through all lists of states finds the first configuration that fits, and none exactly where none fits
pub record FirstIsFound {N : Type 0} (same : N → N → Bool) (t : TheoryOf N) (pins : List (PinOf N)) : Type 0 where
  pub first : (g : List Bool) → (first_fitting same t pins ≡ Some g) ↔ IsFirstFitting same t pins g
  pub none : (first_fitting same t pins ≡ None) ↔ ((g : List Bool) → Fits same t pins g → ⊥)

abbrev pub FirstsAreFound : Type 0
FirstsAreFound = (t : TheoryOf (List ℕ)) (pins : List (PinOf (List ℕ))) → FirstIsFound bytes_eq t pins
