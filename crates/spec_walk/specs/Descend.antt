-- Walks over a value and the values inside it, each read like its owner.
use Rattle.std.specs.Prelude.{◌≡◌, ℕ, List, [], ◌∷◌, ◌++◌, length, unwrap_or}
use Rattle.std.specs.Ordering.{nat_cmp, match_ordering}
use Rattle.std.specs.Cmp.Lexicographic.{slice_cmp}
use Rattle.serde_json.specs.Data.{Data, null, array, object, Items, no_items, item, Members, no_members, member}
use Rattle.spec_walk.specs.Pointer.{under, element}
use Rattle.spec_walk.specs.Event.{Missing, WrongShape}
use Rattle.spec_walk.specs.Walk.{Walk, Done, ◌>>>◌}
use Rattle.spec_walk.specs.Spot.{Spot, spot, wrong, needed, optional, elements, each}

-- what a reader may ask for inside an object, by the member's name, with something handed down: a member that has to be there, the elements of one,
-- and those of one that may be absent or null
pub record Inside (E A : Type 0) : Type 0 where
  pub part : E → List ℕ → Walk A
  pub parts : E → List ℕ → Walk (List A)
  pub optional_parts : E → List ℕ → Walk (List A)

abbrev pub Reader : Type 0 → Type 0 → Type 0
Reader E A = E → Spot → Inside E A → Walk A

abbrev mutual
  pub descend : {E A : Type 0} → Reader E A → E → List ℕ → Data → Walk A
  descend read e at (object ms) = read e (spot at (object ms)) (record {
    part = λ f key. part read f key at ms;
    parts = λ f key. parts read f key at ms;
    optional_parts = λ f key. optional_parts read f key at ms;
  })
  descend read e at d = read e (spot at d) (record {
    part = λ f key. wrong (spot at d) (Missing key);
    parts = λ f key. wrong (spot at d) (Missing key);
    optional_parts = λ f key. Done [];
  })

  pub part : {E A : Type 0} → Reader E A → E → List ℕ → List ℕ → Members → Walk A
  part read e key at no_members = wrong (spot at (object no_members)) (Missing key)
  part read e key at (member k d ms) = match_ordering (slice_cmp nat_cmp key k) (part read e key at ms) (descend read e (under at key) d) (part read e key at ms)

  pub parts : {E A : Type 0} → Reader E A → E → List ℕ → List ℕ → Members → Walk (List A)
  parts read e key at no_members = wrong (spot at (object no_members)) (Missing key)
  parts read e key at (member k d ms) = match_ordering (slice_cmp nat_cmp key k) (parts read e key at ms) (listed read e (under at key) d) (parts read e key at ms)

  pub optional_parts : {E A : Type 0} → Reader E A → E → List ℕ → List ℕ → Members → Walk (List A)
  optional_parts read e key at no_members = Done []
  optional_parts read e key at (member k d ms) = match_ordering (slice_cmp nat_cmp key k) (optional_parts read e key at ms) (listed_or_null read e (under at key) d) (optional_parts read e key at ms)

  pub listed_or_null : {E A : Type 0} → Reader E A → E → List ℕ → Data → Walk (List A)
  listed_or_null read e at null = Done []
  listed_or_null read e at (array ds) = several read e at [] ds
  listed_or_null read e at d = wrong (spot at d) WrongShape

  pub listed : {E A : Type 0} → Reader E A → E → List ℕ → Data → Walk (List A)
  listed read e at (array ds) = several read e at [] ds
  listed read e at d = wrong (spot at d) WrongShape

  -- the elements behind those before them
  pub several : {E A : Type 0} → Reader E A → E → List ℕ → List A → Items → Walk (List A)
  several read e at before no_items = Done before
  several read e at before (item d ds) = descend read e (element at (length before)) d >>> λ x. several read e at (before ++ x ∷ []) ds

-- a value, read where it stands, and the elements of an array
abbrev pub at_spot : {E A : Type 0} → Reader E A → E → Spot → Walk A
at_spot read e here = descend read e here.at here.value

abbrev pub elements_at : {E A : Type 0} → Reader E A → E → Spot → Walk (List A)
elements_at read e here = elements here >>> each (λ _. at_spot read e) here.at []

-- what stands inside a spot: members of its value, and the elements of members
abbrev pub inside_of : {E A : Type 0} → Reader E A → Spot → Inside E A
inside_of read here = record {
  part = λ e key. needed key here >>> at_spot read e;
  parts = λ e key. needed key here >>> elements_at read e;
  optional_parts = λ e key. optional key (elements_at read e) here >>> λ found. Done (unwrap_or found []);
}

-- a reader that goes down is handed exactly that
pub record IsInside {E A : Type 0} (read : Reader E A) (here : Spot) (inside : Inside E A) : Type 0 where
  pub part : (e : E) (key : List ℕ) → inside.part e key ≡ (inside_of read here).part e key
  pub parts : (e : E) (key : List ℕ) → inside.parts e key ≡ (inside_of read here).parts e key
  pub optional_parts : (e : E) (key : List ℕ) → inside.optional_parts e key ≡ (inside_of read here).optional_parts e key
