-- Configurations of features: a state, on or off, for each boolean parameter in order and then for each atom in order.
use Rattle.std.specs.Prelude.{◌≡◌, ℕ, Bool, true, false, List, length, slice_index_or, Option, Some, None, is_none, position}
use Rattle.std.specs.List.{list_all}
use Rattle.spec_refutation.specs.First.{assignment, Before}
use Rattle.spec_features.specs.Fact.{same_truth}
use Rattle.spec_features.specs.Formula.{holds}
use Rattle.spec_features.specs.Theory.{TheoryOf, states}

-- pins: names of boolean parameters, each with the state that it is to have
abbrev pub PinOf : Type 0 → Type 0
PinOf N = N × Bool

-- the first pin, counted from 0, that names no boolean parameter
abbrev pub unknown_pin : {N : Type 0} → (N → N → Bool) → List N → List (PinOf N) → Option ℕ
unknown_pin {N = N} same names pins = position (λ (pin : PinOf N). is_none (position (same pin.0) names)) pins

-- whether the parameter of that number has the pinned state
abbrev pub has_state : Bool → List Bool → Option ℕ → Bool
has_state on g (Some k) = same_truth on (slice_index_or g k false)
has_state on g None = true

abbrev pub agrees : {N : Type 0} → (N → N → Bool) → List N → List Bool → PinOf N → Bool
agrees same names g pin = has_state pin.1 g (position (same pin.0) names)

-- a configuration fits where every constraint holds and every pinned parameter has its state
pub record Fits {N : Type 0} (same : N → N → Bool) (t : TheoryOf N) (pins : List (PinOf N)) (g : List Bool) : Type 0 where
  pub whole : length g ≡ states t
  pub holding : list_all (holds (assignment g)) t.constraints ≡ true
  pub pinned : list_all (agrees same t.names g) pins ≡ true

-- it is first where it fits, and no configuration that fits stands before it: on comes before off, and what counts is the
-- first place at which two configurations differ
pub record IsFirstFitting {N : Type 0} (same : N → N → Bool) (t : TheoryOf N) (pins : List (PinOf N)) (g : List Bool) : Type 0 where
  pub fits : Fits same t pins g
  pub first : (others : List Bool) → Fits same t pins others → Before others g → ⊥
