-- Laws of walks that go down: what is asked for inside is what stands there.
use Rattle.std.proofs.Common.{◌≡◌, ◌∙◌, sym, ap, refl, ℕ, List, [], ◌∷◌, ◌++◌, length, Option, Some, unwrap_or, option_and_then, option_map}
use Rattle.std.proofs.Common.{Ordering, Less, Equal, Greater}
use Rattle.std.specs.Ordering.{nat_cmp, match_ordering}
use Rattle.std.specs.Cmp.Lexicographic.{slice_cmp}
use Rattle.serde_json.specs.Data.{Data, null, boolean, number, string, array, object, Items, no_items, item, Members, no_members, member}
use Rattle.serde_json.specs.Find.{get_member}
use Rattle.spec_walk.specs.Pointer.{under, element}
use Rattle.spec_walk.specs.Event.{Missing}
use Rattle.spec_walk.specs.Walk.{Walk, Done, Stop, Meet, ◌>>>◌}
use Rattle.spec_walk.specs.Spot.{Spot, spot, below, wrong, needs, not_null, if_there, each}
use Rattle.spec_walk.specs.Descend.{Reader, Inside, descend, part, parts, optional_parts, listed, listed_or_null, several, at_spot, elements_at, IsInside}

-- walks that go on alike
pub then-same : {A B : Type 0} (w : Walk A) (f g : A → Walk B) → ((x : A) → f x ≡ g x) → w >>> f ≡ w >>> g
then-same (Done x) f g is = is x
then-same (Stop e) f g is = refl
then-same (Meet e w) f g is = ap (λ v. Meet e v) (then-same w f g is)

pub several-each : {E A : Type 0} (read : Reader E A) (e : E) (at : List ℕ) (before : List A) (ds : Items) → several read e at before ds ≡ each (λ _. at_spot read e) at before ds
several-each read e at before no_items = refl
several-each read e at before (item d ds) = then-same (descend read e (element at (length before)) d) (λ x. several read e at (before ++ x ∷ []) ds) (λ x. each (λ _. at_spot read e) at (before ++ x ∷ []) ds) (λ x. several-each read e at (before ++ x ∷ []) ds)

pub listed-elements : {E A : Type 0} (read : Reader E A) (e : E) (at : List ℕ) (d : Data) → listed read e at d ≡ elements_at read e (spot at d)
listed-elements read e at null = refl
listed-elements read e at (boolean b) = refl
listed-elements read e at (number n) = refl
listed-elements read e at (string s) = refl
listed-elements read e at (array ds) = several-each read e at [] ds
listed-elements read e at (object ms) = refl

pub listed_or_null-elements : {E A : Type 0} (read : Reader E A) (e : E) (key at : List ℕ) (d : Data) → listed_or_null read e (under at key) d ≡ if_there (option_map (λ d. spot (under at key) d) (not_null d)) (elements_at read e) >>> λ found. Done (unwrap_or found [])
listed_or_null-elements read e key at null = refl
listed_or_null-elements read e key at (boolean b) = refl
listed_or_null-elements read e key at (number n) = refl
listed_or_null-elements read e key at (string s) = refl
listed_or_null-elements read e key at (array ds) = several-each read e (under at key) [] ds ∙ sym (unwrapped (each (λ _. at_spot read e) (under at key) [] ds))
  where
    unwrapped : {A : Type 0} (w : Walk (List A)) → (w >>> λ x. Done (Some x)) >>> (λ found. Done (unwrap_or found [])) ≡ w
    unwrapped (Done x) = refl
    unwrapped (Stop f) = refl
    unwrapped (Meet m w) = ap (λ v. Meet m v) (unwrapped w)
listed_or_null-elements read e key at (object ms) = refl

-- what is asked for inside an object
abbrev needs_below : List ℕ → Spot → Option Data → Walk Spot
needs_below key here o = needs (option_map (below key here) o) here (Missing key)

part-member : {E A : Type 0} (read : Reader E A) (e : E) (key at : List ℕ) (owner : Data) (ms : Members) → part read e key at ms ≡ needs_below key (spot at owner) (get_member key ms) >>> at_spot read e
part-member read e key at owner no_members = refl
part-member read e key at owner (member k d ms) = go (slice_cmp nat_cmp key k) (part-member read e key at owner ms)
  where
    go : (o : Ordering) → part read e key at ms ≡ needs_below key (spot at owner) (get_member key ms) >>> at_spot read e
        → match_ordering o (part read e key at ms) (descend read e (under at key) d) (part read e key at ms) ≡ needs_below key (spot at owner) (match_ordering o (get_member key ms) (Some d) (get_member key ms)) >>> at_spot read e
    go Less h = h
    go Equal h = refl
    go Greater h = h

parts-member : {E A : Type 0} (read : Reader E A) (e : E) (key at : List ℕ) (owner : Data) (ms : Members) → parts read e key at ms ≡ needs_below key (spot at owner) (get_member key ms) >>> elements_at read e
parts-member read e key at owner no_members = refl
parts-member read e key at owner (member k d ms) = go (slice_cmp nat_cmp key k) (parts-member read e key at owner ms)
  where
    go : (o : Ordering) → parts read e key at ms ≡ needs_below key (spot at owner) (get_member key ms) >>> elements_at read e
        → match_ordering o (parts read e key at ms) (listed read e (under at key) d) (parts read e key at ms) ≡ needs_below key (spot at owner) (match_ordering o (get_member key ms) (Some d) (get_member key ms)) >>> elements_at read e
    go Less h = h
    go Equal h = listed-elements read e (under at key) d
    go Greater h = h

abbrev there_below : {A : Type 0} → List ℕ → List ℕ → (Spot → Walk (List A)) → Option Data → Walk (List A)
there_below key at read o = if_there (option_map (λ d. spot (under at key) d) (option_and_then not_null o)) read >>> λ found. Done (unwrap_or found [])

optional_parts-member : {E A : Type 0} (read : Reader E A) (e : E) (key at : List ℕ) (ms : Members) → optional_parts read e key at ms ≡ there_below key at (elements_at read e) (get_member key ms)
optional_parts-member read e key at no_members = refl
optional_parts-member read e key at (member k d ms) = go (slice_cmp nat_cmp key k) (optional_parts-member read e key at ms)
  where
    go : (o : Ordering) → optional_parts read e key at ms ≡ there_below key at (elements_at read e) (get_member key ms)
        → match_ordering o (optional_parts read e key at ms) (listed_or_null read e (under at key) d) (optional_parts read e key at ms) ≡ there_below key at (elements_at read e) (match_ordering o (get_member key ms) (Some d) (get_member key ms))
    go Less h = h
    go Equal h = listed_or_null-elements read e key at d
    go Greater h = h

pub record Descends {E A : Type 0} (read : Reader E A) (e : E) (here : Spot) : Type 0 where
  pub inside : Inside E A
  pub walk : descend read e here.at here.value ≡ read e here inside
  pub is : IsInside read here inside

no_inside : {E A : Type 0} → Spot → Inside E A
no_inside here = record { part = λ e key. wrong here (Missing key); parts = λ e key. wrong here (Missing key); optional_parts = λ e key. Done [] }

pub descends : {E A : Type 0} (read : Reader E A) (e : E) (at : List ℕ) (d : Data) → Descends read e (spot at d)
descends read e at null = record { inside = _; walk = refl; is = record { part = λ e key. refl; parts = λ e key. refl; optional_parts = λ e key. refl } }
descends read e at (boolean b) = record { inside = _; walk = refl; is = record { part = λ e key. refl; parts = λ e key. refl; optional_parts = λ e key. refl } }
descends read e at (number n) = record { inside = _; walk = refl; is = record { part = λ e key. refl; parts = λ e key. refl; optional_parts = λ e key. refl } }
descends read e at (string s) = record { inside = _; walk = refl; is = record { part = λ e key. refl; parts = λ e key. refl; optional_parts = λ e key. refl } }
descends read e at (array ds) = record { inside = _; walk = refl; is = record { part = λ e key. refl; parts = λ e key. refl; optional_parts = λ e key. refl } }
descends read e at (object ms) = record { inside = _; walk = refl; is = record { part = λ e key. part-member read e key at (object ms) ms; parts = λ e key. parts-member read e key at (object ms) ms; optional_parts = λ e key. optional_parts-member read e key at ms } }
