-- What holds of a walk's value, wherever it has one.
use Rattle.std.proofs.Common.{◌≡◌, ap, refl, subst, ℕ, Bool, true, false, List, [], ◌∷◌, ◌++◌, length, Option, Some, None, unwrap_or, Result, Ok, Err, Ordering, Less, Equal, Greater}
use Rattle.std.specs.Prelude.{⊤, IfSome}
use Rattle.std.specs.List.{AllByRecursion}
use Rattle.std.specs.Ordering.{nat_cmp, match_ordering}
use Rattle.std.specs.Cmp.Lexicographic.{slice_cmp}
use Rattle.serde_json.specs.Data.{Data, null, boolean, number, string, array, object, Items, no_items, item, Members, no_members, member}
use Rattle.spec_walk.specs.Pointer.{under, element}
use Rattle.spec_walk.specs.Event.{Why, Fault}
use Rattle.spec_walk.specs.Limits.{Counts, after, ◌>>=◌}
use Rattle.spec_walk.specs.Walk.{Walk, Done, Stop, Meet, ◌>>>◌, gives}
use Rattle.spec_walk.specs.Spot.{Spot, spot, unless, needs, needed, if_there, optional, member_at, elements, each}
use Rattle.spec_walk.specs.Descend.{Inside, Reader, descend, part, parts, optional_parts, listed_or_null, listed, several, at_spot, elements_at, inside_of}

-- the value has the property, where a fault does not end the walk
abbrev pub Every : {A : Type 0} → (A → Type 0) → Walk A → Type 0
Every P (Done x) = P x
Every P (Stop f) = ⊤
Every P (Meet e w) = Every P w

abbrev value_or : {A : Type 0} → A → Result (A × Counts) Fault → A
value_or y (Ok p) = p.0
value_or y (Err f) = y

pub every-gives : {A : Type 0} (P : A → Type 0) (w : Walk A) (c after : Counts) (x : A) → Every P w → gives w c ≡ Ok (x, after) → P x
every-gives P (Done y) c d x h e = subst P (ap (value_or y) e) h
every-gives P (Stop f) c d x h e = absurd cc
every-gives P (Meet m w) c d x h e = go (after m c) (λ n g. every-gives P w n d x h g) e
  where
    go : (r : Result Counts Fault) → ((n : Counts) → gives w n ≡ Ok (x, d) → P x) → r >>= gives w ≡ Ok (x, d) → P x
    go (Ok n) later g = later n g
    go (Err f) later g = absurd cc

pub every-weaker : {A : Type 0} (P Q : A → Type 0) (w : Walk A) → ((x : A) → P x → Q x) → Every P w → Every Q w
every-weaker P Q (Done x) is h = is x h
every-weaker P Q (Stop f) is h = tt
every-weaker P Q (Meet e w) is h = every-weaker P Q w is h

-- ---- walks in a row, and those of one word

pub every-then : {A B : Type 0} (P : A → Type 0) (Q : B → Type 0) (w : Walk A) (next : A → Walk B) → Every P w → ((x : A) → P x → Every Q (next x)) → Every Q (w >>> next)
every-then P Q (Done x) next h then_h = then_h x h
every-then P Q (Stop f) next h then_h = tt
every-then P Q (Meet e w) next h then_h = every-then P Q w next h then_h

-- of any value
pub every-any : {A : Type 0} (w : Walk A) → Every (λ _. ⊤) w
every-any (Done x) = tt
every-any (Stop f) = tt
every-any (Meet e w) = every-any w

pub every-next : {A B : Type 0} (Q : B → Type 0) (w : Walk A) (next : A → Walk B) → ((x : A) → Every Q (next x)) → Every Q (w >>> next)
every-next Q w next h = every-then (λ _. ⊤) Q w next (every-any w) (λ x _. h x)

pub every-unless : (b : Bool) (here : Spot) (why : Why) → Every (λ _. b ≡ true) (unless b here why)
every-unless true here why = refl
every-unless false here why = tt

pub every-needs : {A : Type 0} (o : Option A) (here : Spot) (why : Why) → Every (λ x. o ≡ Some x) (needs o here why)
every-needs (Some x) here why = refl
every-needs None here why = tt

every-there : {A : Type 0} (P : A → Type 0) (o : Option Spot) (read : Spot → Walk A) → ((here : Spot) → Every P (read here)) → Every (λ o. IfSome o P) (if_there o read)
every-there P None read h = tt
every-there P (Some found) read h = every-then P (λ o. IfSome o P) (read found) (λ x. Done (Some x)) (h found) (λ x p. p)

pub every-optional : {A : Type 0} (P : A → Type 0) (key : List ℕ) (read : Spot → Walk A) (here : Spot) → ((here : Spot) → Every P (read here)) → Every (λ o. IfSome o P) (optional key read here)
every-optional P key read here h = every-there P (member_at key here) read h

-- ---- elements

abbrev pub AllOf : {A : Type 0} → (A → Type 0) → List A → Type 0
AllOf P xs = AllByRecursion P xs

all-with : {A : Type 0} (P : A → Type 0) (xs : List A) (x : A) → AllOf P xs → P x → AllOf P (xs ++ x ∷ [])
all-with P [] x h p = (p, tt)
all-with P (y ∷ xs) x h p = (h.0, all-with P xs x h.1 p)

pub every-each : {A : Type 0} (P : A → Type 0) (read : List A → Spot → Walk A) (at : List ℕ) (before : List A) (ds : Items) → ((xs : List A) (here : Spot) → AllOf P xs → Every P (read xs here)) → AllOf P before → Every (AllOf P) (each read at before ds)
every-each P read at before no_items h all = all
every-each P read at before (item d ds) h all =
    every-then P (AllOf P) (read before (spot (element at (length before)) d)) (λ x. each read at (before ++ x ∷ []) ds) (h before (spot (element at (length before)) d) all)
    (λ x p. every-each P read at (before ++ x ∷ []) ds h (all-with P before x all p))

-- ---- walks that go down

-- what is asked for inside has the property of what is handed down
pub record EveryInside {E A : Type 0} (P : E → A → Type 0) (inside : Inside E A) : Type 0 where
  pub part : (e : E) (key : List ℕ) → Every (P e) (inside.part e key)
  pub parts : (e : E) (key : List ℕ) → Every (AllOf (P e)) (inside.parts e key)
  pub optional_parts : (e : E) (key : List ℕ) → Every (AllOf (P e)) (inside.optional_parts e key)

-- a reader whose value has the property where all that it asks for inside has it
abbrev pub Keeps : {E A : Type 0} → (E → A → Type 0) → Reader E A → Type 0
Keeps {E} {A} P read = (e : E) (here : Spot) (inside : Inside E A) → EveryInside P inside → Every (P e) (read e here inside)

found-here : {A : Type 0} (P : A → Type 0) (o : Ordering) (here rest : Walk A) → Every P here → Every P rest → Every P (match_ordering o rest here rest)
found-here P Less here rest h r = r
found-here P Equal here rest h r = h
found-here P Greater here rest h r = r

mutual
  pub every-descend : {E A : Type 0} (P : E → A → Type 0) (read : Reader E A) → Keeps P read → (e : E) (at : List ℕ) (d : Data) → Every (P e) (descend read e at d)
  every-descend P read keeps e at (object ms) = keeps e (spot at (object ms)) _ (record { part = λ f key. every-part P read keeps f key at ms; parts = λ f key. every-parts P read keeps f key at ms; optional_parts = λ f key. every-optional_parts P read keeps f key at ms })
  every-descend P read keeps e at null = keeps e (spot at null) _ (record { part = λ f key. tt; parts = λ f key. tt; optional_parts = λ f key. tt })
  every-descend P read keeps e at (boolean b) = keeps e (spot at (boolean b)) _ (record { part = λ f key. tt; parts = λ f key. tt; optional_parts = λ f key. tt })
  every-descend P read keeps e at (number n) = keeps e (spot at (number n)) _ (record { part = λ f key. tt; parts = λ f key. tt; optional_parts = λ f key. tt })
  every-descend P read keeps e at (string s) = keeps e (spot at (string s)) _ (record { part = λ f key. tt; parts = λ f key. tt; optional_parts = λ f key. tt })
  every-descend P read keeps e at (array ds) = keeps e (spot at (array ds)) _ (record { part = λ f key. tt; parts = λ f key. tt; optional_parts = λ f key. tt })

  every-part : {E A : Type 0} (P : E → A → Type 0) (read : Reader E A) → Keeps P read → (e : E) (key at : List ℕ) (ms : Members) → Every (P e) (part read e key at ms)
  every-part P read keeps e key at no_members = tt
  every-part P read keeps e key at (member k d ms) = found-here (P e) (slice_cmp nat_cmp key k) (descend read e (under at key) d) (part read e key at ms) (every-descend P read keeps e (under at key) d) (every-part P read keeps e key at ms)

  every-parts : {E A : Type 0} (P : E → A → Type 0) (read : Reader E A) → Keeps P read → (e : E) (key at : List ℕ) (ms : Members) → Every (AllOf (P e)) (parts read e key at ms)
  every-parts P read keeps e key at no_members = tt
  every-parts P read keeps e key at (member k d ms) = found-here (AllOf (P e)) (slice_cmp nat_cmp key k) (listed read e (under at key) d) (parts read e key at ms) (every-listed P read keeps e (under at key) d) (every-parts P read keeps e key at ms)

  every-optional_parts : {E A : Type 0} (P : E → A → Type 0) (read : Reader E A) → Keeps P read → (e : E) (key at : List ℕ) (ms : Members) → Every (AllOf (P e)) (optional_parts read e key at ms)
  every-optional_parts P read keeps e key at no_members = tt
  every-optional_parts P read keeps e key at (member k d ms) = found-here (AllOf (P e)) (slice_cmp nat_cmp key k) (listed_or_null read e (under at key) d) (optional_parts read e key at ms) (every-listed_or_null P read keeps e (under at key) d) (every-optional_parts P read keeps e key at ms)

  every-listed_or_null : {E A : Type 0} (P : E → A → Type 0) (read : Reader E A) → Keeps P read → (e : E) (at : List ℕ) (d : Data) → Every (AllOf (P e)) (listed_or_null read e at d)
  every-listed_or_null P read keeps e at null = tt
  every-listed_or_null P read keeps e at (boolean b) = tt
  every-listed_or_null P read keeps e at (number n) = tt
  every-listed_or_null P read keeps e at (string s) = tt
  every-listed_or_null P read keeps e at (array ds) = every-several P read keeps e at [] ds tt
  every-listed_or_null P read keeps e at (object ms) = tt

  every-listed : {E A : Type 0} (P : E → A → Type 0) (read : Reader E A) → Keeps P read → (e : E) (at : List ℕ) (d : Data) → Every (AllOf (P e)) (listed read e at d)
  every-listed P read keeps e at null = tt
  every-listed P read keeps e at (boolean b) = tt
  every-listed P read keeps e at (number n) = tt
  every-listed P read keeps e at (string s) = tt
  every-listed P read keeps e at (array ds) = every-several P read keeps e at [] ds tt
  every-listed P read keeps e at (object ms) = tt

  every-several : {E A : Type 0} (P : E → A → Type 0) (read : Reader E A) → Keeps P read → (e : E) (at : List ℕ) (before : List A) (ds : Items) → AllOf (P e) before → Every (AllOf (P e)) (several read e at before ds)
  every-several P read keeps e at before no_items all = all
  every-several P read keeps e at before (item d ds) all =
      every-then (P e) (AllOf (P e)) (descend read e (element at (length before)) d) (λ x. several read e at (before ++ x ∷ []) ds) (every-descend P read keeps e (element at (length before)) d)
      (λ x p. every-several P read keeps e at (before ++ x ∷ []) ds (all-with (P e) before x all p))

-- what stands inside a spot, read so
pub every-elements : {E A : Type 0} (P : E → A → Type 0) (read : Reader E A) → Keeps P read → (e : E) (found : Spot) → Every (AllOf (P e)) (elements_at read e found)
every-elements P read keeps e found =
    every-next (AllOf (P e)) (elements found) (each (λ _. at_spot read e) found.at [])
    (λ ds. every-each (P e) (λ _. at_spot read e) found.at [] ds (λ xs inner _. every-descend P read keeps e inner.at inner.value) tt)

unwrapped : {A : Type 0} (P : A → Type 0) (found : Option (List A)) → IfSome found (AllOf P) → AllOf P (unwrap_or found [])
unwrapped P None h = tt
unwrapped P (Some xs) h = h

pub every-inside : {E A : Type 0} (P : E → A → Type 0) (read : Reader E A) → Keeps P read → (here : Spot) → EveryInside P (inside_of read here)
every-inside P read keeps here = record {
  part = λ e key. every-next (P e) (needed key here) (at_spot read e) (λ found. every-descend P read keeps e found.at found.value);
  parts = λ e key. every-next (AllOf (P e)) (needed key here) (elements_at read e) (λ found. every-elements P read keeps e found);
  optional_parts = λ e key. every-then (λ found. IfSome found (AllOf (P e))) (AllOf (P e)) (optional key (elements_at read e) here) (λ found. Done (unwrap_or found []))
      (every-optional (AllOf (P e)) key (elements_at read e) here (every-elements P read keeps e)) (λ found h. unwrapped (P e) found h);
}
