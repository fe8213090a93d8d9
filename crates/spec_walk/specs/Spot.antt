-- The words that a walk over a JSON document is written in. A spot is a value with its place in the document.
use Rattle.std.specs.Prelude.{ℕ, List, Bool, true, false, Option, Some, None, if◌then◌else◌, codes, bytes_eq, nat_lt, option_map, option_and_then, length, [], ◌∷◌, ◌++◌, ⊤}
use Rattle.serde_json.specs.Data.{Data, null, boolean, number, string, array, object, Items, no_items, item}
use Rattle.serde_json.specs.Find.{get, as_str, as_array, as_number, as_u64}
use Rattle.spec_walk.specs.Pointer.{under, element}
use Rattle.spec_walk.specs.Event.{Why, Missing, UnlistedKind, WrongShape, Name, OneMore, Thing}
use Rattle.spec_walk.specs.Walk.{Walk, Done, Stop, Meet, ◌>>>◌}

pub record Spot : Type 0 where
  pub at : List ℕ
  pub value : Data

abbrev pub spot : List ℕ → Data → Spot
spot at d = record { at = at; value = d }

-- a whole document stands at the empty Pointer
abbrev pub root : Data → Spot
root d = spot [] d

-- ---- faults of a spot

abbrev pub wrong : {A : Type 0} → Spot → Why → Walk A
wrong here why = Stop (record { at = here.at; why = why })

-- a fault unless the test holds
abbrev pub unless : Bool → Spot → Why → Walk ⊤
unless test here why = if test then Done tt else wrong here why

-- what is there, or a fault
abbrev pub needs : {A : Type 0} → Option A → Spot → Why → Walk A
needs (Some x) here why = Done x
needs None here why = wrong here why

-- ---- an object, an array, a text, and a whole number below a limit

abbrev pub is_object : Data → Bool
is_object (object ms) = true
is_object d = false

abbrev pub an_object : Spot → Walk ⊤
an_object here = unless (is_object here.value) here WrongShape

abbrev pub elements : Spot → Walk Items
elements here = needs (as_array here.value) here WrongShape

abbrev pub text : Spot → Walk (List ℕ)
text here = needs (as_str here.value) here WrongShape

-- a whole number, as serde_json keeps one (RFC 8259 leaves its range open)
abbrev pub whole_number : ℕ → Data → Option ℕ
whole_number limit d = option_and_then (λ n. if nat_lt n limit then Some n else None) (option_and_then as_u64 (as_number d))

abbrev pub number_below : ℕ → Spot → Walk ℕ
number_below limit here = needs (whole_number limit here.value) here WrongShape

-- ---- members

-- the member of that name, as a spot of its own
abbrev pub below : List ℕ → Spot → Data → Spot
below key here d = spot (under here.at key) d

-- a member that has to be there, null being a value like another
abbrev pub needed : List ℕ → Spot → Walk Spot
needed key here = needs (option_map (below key here) (get key here.value)) here (Missing key)

abbrev pub not_null : Data → Option Data
not_null null = None
not_null (boolean b) = Some (boolean b)
not_null (number n) = Some (number n)
not_null (string s) = Some (string s)
not_null (array ds) = Some (array ds)
not_null (object ms) = Some (object ms)

-- a member that may be absent or null, which means the same
abbrev pub member_at : List ℕ → Spot → Option Spot
member_at key here = option_map (below key here) (option_and_then not_null (get key here.value))

abbrev pub if_there : {A : Type 0} → Option Spot → (Spot → Walk A) → Walk (Option A)
if_there None read = Done None
if_there (Some found) read = read found >>> λ x. Done (Some x)

abbrev pub optional : {A : Type 0} → List ℕ → (Spot → Walk A) → Spot → Walk (Option A)
optional key read here = if_there (member_at key here) read

-- ---- kinds

-- the text of the member `_type` of an object
abbrev pub kind_text : Spot → Walk (List ℕ)
kind_text here = an_object here >>> λ _. needed (codes "_type") here >>> text

-- what it means at the place; one without a meaning is a fault of the object
abbrev pub kind : {K : Type 0} → (List ℕ → Option K) → Spot → Walk K
kind meaning here = kind_text here >>> λ s. needs (meaning s) here UnlistedKind

-- it is that text
abbrev pub exactly : List ℕ → Spot → Walk ⊤
exactly wanted here = kind_text here >>> λ s. unless (bytes_eq wanted s) here UnlistedKind

-- ---- what is met: a text that takes a number, and one more of a thing that is counted; both are of the object

abbrev pub named : Spot → List ℕ → Walk (List ℕ)
named here s = Meet (Name here.at s) (Done s)

abbrev pub one_more : Thing → Spot → Walk ⊤
one_more thing here = Meet (OneMore thing here.at) (Done tt)

-- ---- arrays

-- the elements of an array, each read with what those before it gave
abbrev pub each : {A : Type 0} → (List A → Spot → Walk A) → List ℕ → List A → Items → Walk (List A)
each read at before no_items = Done before
each read at before (item d ds) = read before (spot (element at (length before)) d) >>> λ x. each read at (before ++ x ∷ []) ds
