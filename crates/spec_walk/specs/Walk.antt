-- A walk over a document: the events that are met on the way, and behind them a value or the fault that ends the walk.
use Rattle.std.specs.Prelude.{List, [], ◌∷◌, Option, Some, None, Result, Ok, Err}
use Rattle.spec_walk.specs.Event.{Fault, Event, Wrong}
use Rattle.spec_walk.specs.Limits.{Counts, after, ◌>>=◌}

pub data Walk (A : Type 0) : Type 0 where
  Done : A → Walk A
  Stop : Fault → Walk A
  Meet : Event → Walk A → Walk A

-- one walk, and behind it the one that its value leads to
infixl 10 ◌>>>◌
abbrev pub ◌>>>◌ : {A B : Type 0} → Walk A → (A → Walk B) → Walk B
(Done x) >>> next = next x
(Stop f) >>> next = Stop f
(Meet e w) >>> next = Meet e (w >>> next)

-- what is met, in order; a fault that ends the walk is the last
abbrev pub events : {A : Type 0} → Walk A → List Event
events (Done x) = []
events (Stop f) = Wrong f ∷ []
events (Meet e w) = e ∷ events w

-- the value at the end, where no fault ends the walk; limits are not looked at
abbrev pub value : {A : Type 0} → Walk A → Option A
value (Done x) = Some x
value (Stop f) = None
value (Meet e w) = value w

-- the value with the counts behind all events, or the first fault: the one that ends the walk, or the first that passes a limit
abbrev pub gives : {A : Type 0} → Walk A → Counts → Result (A × Counts) Fault
gives (Done x) c = Ok (x, c)
gives (Stop f) c = Err f
gives (Meet e w) c = after e c >>= gives w
