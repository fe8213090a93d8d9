-- What walks count: of a thing as many as their events say, and no more than its limit. A measure of a walk's value may be covered by
-- what the walk counts.
use Rattle.std.proofs.Common.{◌≡◌, ◌∙◌, sym, ap, refl, ℕ, ◌+◌, ◌≤◌, ◌<◌, Bool, true, false, cond, nat_le, List, [], ◌∷◌, ◌++◌, length, Option, Some, None, unwrap_or, Result, Ok, Err, Ordering, Less, Equal, Greater, arith, ◌⊎◌, inl, inr}
use Rattle.std.specs.Prelude.{⊤, sum_by}
use Rattle.std.specs.Ordering.{nat_cmp, match_ordering}
use Rattle.std.specs.Cmp.Lexicographic.{slice_cmp}
use Rattle.std.proofs.lemmas.Bool.Decides.{nat_tests}
use Rattle.std.proofs.lemmas.List.Sums.{sum_by-append, sum_by-cons}
use Rattle.serde_json.specs.Data.{Data, null, boolean, number, string, array, object, Items, no_items, item, Members, no_members, member}
use Rattle.spec_walk.specs.Pointer.{under, element}
use Rattle.spec_walk.specs.Event.{Thing, ANode, ALeaf, AnAlias, AnExpression, Fault, Event, Name, OneMore, Wrong}
use Rattle.spec_walk.specs.Limits.{Counts, node_limit, leaf_limit, alias_limit, expression_limit, after, ◌>>=◌}
use Rattle.spec_walk.specs.Walk.{Walk, Done, Stop, Meet, ◌>>>◌, gives}
use Rattle.spec_walk.specs.FirstFault.{limit_of, counted, is_one_more, count_of, fault_of, behind, unless_fault}
use Rattle.spec_walk.specs.Spot.{Spot, spot, if_there, member_at, needed, optional, elements, each}
use Rattle.spec_walk.specs.Descend.{Inside, Reader, descend, part, parts, optional_parts, listed_or_null, listed, several, at_spot, elements_at, inside_of}
use Rattle.spec_walk.proofs.FirstFaultLaws.{after-is}

-- ---- things that are counted

-- how many of a thing an event counts
abbrev pub cost : Thing → Event → ℕ
cost thing m = cond (is_one_more thing m) 1 0

passed : (o : Option Fault) (next d : Counts) → unless_fault o (Ok next) ≡ Ok d → next ≡ d
passed None next d e = let same : next ≡ d = cc in same
passed (Some f) next d e = absurd cc

counted-behind : (thing : Thing) (c : Counts) (m : Event) → counted thing (behind c (m ∷ [])) ≡ counted thing c + count_of thing (m ∷ [])
counted-behind ANode c m = refl
counted-behind ALeaf c m = refl
counted-behind AnAlias c m = refl
counted-behind AnExpression c m = refl

cost_is : (thing : Thing) (m : Event) (c d : Counts) → after m c ≡ Ok d → counted thing d ≡ counted thing c + cost thing m
cost_is thing m c d e =
    sym (ap (counted thing) (passed (fault_of c m) (behind c (m ∷ [])) d (sym (after-is c m) ∙ e))) ∙ counted-behind thing c m
    ∙ omega (arith, sum_by-cons (λ x. cond (is_one_more thing x) 1 0) m [])

within : (b : Bool) (f : Fault) (next c : Counts) → cond b (Err f) (Ok next) ≡ Ok c → b ≡ false
within true f next c e = absurd cc
within false f next c e = refl

room : (thing : Thing) (at : List ℕ) (c d : Counts) → after (OneMore thing at) c ≡ Ok d → counted thing c < limit_of thing
room ANode at c d e = let free : nat_le node_limit c.nodes ≡ false = within (nat_le node_limit c.nodes) _ _ d e in grind (arith, nat_tests)
room ALeaf at c d e = let free : nat_le leaf_limit c.leaves ≡ false = within (nat_le leaf_limit c.leaves) _ _ d e in grind (arith, nat_tests)
room AnAlias at c d e = let free : nat_le alias_limit c.aliases ≡ false = within (nat_le alias_limit c.aliases) _ _ d e in grind (arith, nat_tests)
room AnExpression at c d e = let free : nat_le expression_limit c.expressions ≡ false = within (nat_le expression_limit c.expressions) _ _ d e in grind (arith, nat_tests)

cost-lt : (thing : Thing) (m : Event) → cost thing m ≤ 1
cost-lt thing m = go (is_one_more thing m)
  where
    go : (b : Bool) → cond b 1 0 ≤ 1
    go true = omega arith
    go false = omega arith

-- an event that counts a thing is one more of that thing
same_thing : (thing other : Thing) (at : List ℕ) → (cost thing (OneMore other at) ≡ 0) ⊎ (thing ≡ other)
same_thing ANode ANode at = inr refl
same_thing ALeaf ALeaf at = inr refl
same_thing AnAlias AnAlias at = inr refl
same_thing AnExpression AnExpression at = inr refl
same_thing thing other at = inl refl

no_cost : (thing : Thing) (at s : List ℕ) → cost thing (Name at s) ≡ 0
no_cost ANode at s = refl
no_cost ALeaf at s = refl
no_cost AnAlias at s = refl
no_cost AnExpression at s = refl

few_stay : (thing : Thing) (m : Event) (c d : Counts) → after m c ≡ Ok d → counted thing c ≤ limit_of thing → counted thing d ≤ limit_of thing
few_stay thing (Name at s) c d e le = omega (arith, cost_is thing (Name at s) c d e, no_cost thing at s, le)
few_stay thing (Wrong f) c d e le = absurd cc
few_stay thing (OneMore other at) c d e le = go (same_thing thing other at)
  where
    go : (cost thing (OneMore other at) ≡ 0) ⊎ (thing ≡ other) → counted thing d ≤ limit_of thing
    go (inl none) = omega (arith, cost_is thing (OneMore other at) c d e, none, le)
    go (inr same) =
        let free : counted thing c < limit_of thing = room thing at c d (ap (λ t. after (OneMore t at) c) same ∙ e) in
        omega (arith, cost_is thing (OneMore other at) c d e, cost-lt thing (OneMore other at), free)

-- ---- a measure that is covered

-- with what was counted before, a walk counts as much as the measure of its value
abbrev pub Covers : {A : Type 0} → (Event → ℕ) → (A → ℕ) → ℕ → Walk A → Type 0
Covers per f n (Done x) = f x ≤ n
Covers per f n (Stop w) = ⊤
Covers per f n (Meet m w) = Covers per f (n + per m) w

abbrev value_or : {A : Type 0} → A → Result (A × Counts) Fault → A
value_or y (Ok p) = p.0
value_or y (Err f) = y

abbrev counted_in : {A : Type 0} → Thing → Result (A × Counts) Fault → ℕ
counted_in thing (Ok p) = counted thing p.1
counted_in thing (Err f) = 0

pub covers-gives : {A : Type 0} (thing : Thing) (f : A → ℕ) (n : ℕ) (w : Walk A) (c d : Counts) (x : A) → Covers (cost thing) f n w → gives w c ≡ Ok (x, d) → f x + counted thing c ≤ n + counted thing d
covers-gives thing f n (Done y) c d x h e = omega (arith, h, ap f (ap (value_or y) e), ap (counted_in thing) e)
covers-gives thing f n (Stop w) c d x h e = absurd cc
covers-gives {A} thing f n (Meet m w) c d x h e = go (after m c) (λ k is. cost_is thing m c k is) (λ k g. covers-gives thing f (n + cost thing m) w k d x h g) e
  where
    go : (r : Result Counts Fault) → ((k : Counts) → r ≡ Ok k → counted thing k ≡ counted thing c + cost thing m) → ((k : Counts) → gives w k ≡ Ok (x, d) → f x + counted thing k ≤ n + cost thing m + counted thing d)
        → r >>= gives w ≡ Ok (x, d) → f x + counted thing c ≤ n + counted thing d
    go (Ok k) costs later g = omega (arith, later k g, costs k refl)
    go (Err s) costs later g = absurd cc

-- what is counted stays within its limit
pub few-gives : {A : Type 0} (thing : Thing) (w : Walk A) (c d : Counts) (x : A) → counted thing c ≤ limit_of thing → gives w c ≡ Ok (x, d) → counted thing d ≤ limit_of thing
few-gives thing (Done y) c d x le e = omega (arith, le, ap (counted_in thing) e)
few-gives thing (Stop f) c d x le e = absurd cc
few-gives {A} thing (Meet m w) c d x le e = go (after m c) (λ k is. few_stay thing m c k is le) (λ k few g. few-gives thing w k d x few g) e
  where
    go : (r : Result Counts Fault) → ((k : Counts) → r ≡ Ok k → counted thing k ≤ limit_of thing) → ((k : Counts) → counted thing k ≤ limit_of thing → gives w k ≡ Ok (x, d) → counted thing d ≤ limit_of thing)
        → r >>= gives w ≡ Ok (x, d) → counted thing d ≤ limit_of thing
    go (Ok k) few later g = later k (few k refl) g
    go (Err s) few later g = absurd cc

-- ---- walks in a row

pub covers-then : {A B : Type 0} (per : Event → ℕ) (f : A → ℕ) (g : B → ℕ) (n : ℕ) (w : Walk A) (next : A → Walk B) → Covers per f n w → ((x : A) (k : ℕ) → f x ≤ k → Covers per g k (next x)) → Covers per g n (w >>> next)
covers-then per f g n (Done x) next h later = later x n h
covers-then per f g n (Stop s) next h later = tt
covers-then per f g n (Meet m w) next h later = covers-then per f g (n + per m) w next h later

-- what was counted before is not lost
pub covers-any : {A : Type 0} (per : Event → ℕ) (m n : ℕ) (w : Walk A) → m ≤ n → Covers per (λ _. m) n w
covers-any per m n (Done x) le = le
covers-any per m n (Stop s) le = tt
covers-any per m n (Meet s w) le = covers-any per m (n + per s) w (omega (arith, le))

pub covers-next : {A B : Type 0} (per : Event → ℕ) (g : B → ℕ) (n : ℕ) (w : Walk A) (next : A → Walk B) → ((x : A) (k : ℕ) → n ≤ k → Covers per g k (next x)) → Covers per g n (w >>> next)
covers-next per g n w next later = covers-then per (λ _. n) g n w next (covers-any per n n w (omega arith)) later

pub covers-less : {A : Type 0} (per : Event → ℕ) (f g : A → ℕ) (n : ℕ) (w : Walk A) → ((x : A) → g x ≤ f x) → Covers per f n w → Covers per g n w
covers-less per f g n (Done x) less h = omega (arith, less x, h)
covers-less per f g n (Stop s) less h = tt
covers-less per f g n (Meet m w) less h = covers-less per f g (n + per m) w less h

-- ---- elements, and members that may be absent

-- the measure, and so much besides
abbrev pub beside : {A : Type 0} → (A → ℕ) → ℕ → A → ℕ
beside f m x = f x + m

abbrev pub all_of : {A : Type 0} → (A → ℕ) → List A → ℕ
all_of f xs = sum_by f xs

abbrev pub if_any : {A : Type 0} → (A → ℕ) → Option A → ℕ
if_any f None = 0
if_any f (Some x) = f x

abbrev pub AllCover : {A : Type 0} → (Event → ℕ) → (A → ℕ) → (Spot → Walk A) → Type 0
AllCover per f read = (here : Spot) (m : ℕ) → Covers per (beside f m) m (read here)

one-more : {A : Type 0} (f : A → ℕ) (xs : List A) (x : A) → all_of f (xs ++ x ∷ []) ≡ all_of f xs + f x
one-more f xs x = omega (arith, sum_by-append f xs (x ∷ []), sum_by-cons f x [])

pub covers-each : {A : Type 0} (per : Event → ℕ) (f : A → ℕ) (read : List A → Spot → Walk A) (at : List ℕ) (before : List A) (ds : Items) (m n : ℕ) → ((xs : List A) → AllCover per f (read xs)) → all_of f before + m ≤ n
    → Covers per (beside (all_of f) m) n (each read at before ds)
covers-each per f read at before no_items m n cover le = le
covers-each per f read at before (item d ds) m n cover le =
    covers-then per (beside f n) (beside (all_of f) m) n (read before (spot (element at (length before)) d)) (λ x. each read at (before ++ x ∷ []) ds) (cover before (spot (element at (length before)) d) n)
    (λ x k more. covers-each per f read at (before ++ x ∷ []) ds m k cover (omega (arith, one-more f before x, more, le)))

pub covers-optional : {A : Type 0} (per : Event → ℕ) (f : A → ℕ) (key : List ℕ) (read : Spot → Walk A) (here : Spot) (m : ℕ) → AllCover per f read → Covers per (beside (if_any f) m) m (optional key read here)
covers-optional per f key read here m cover = go (member_at key here)
  where
    go : (o : Option Spot) → Covers per (beside (if_any f) m) m (if_there o read)
    go None = omega arith
    go (Some found) = covers-then per (beside f m) (beside (if_any f) m) m (read found) (λ x. Done (Some x)) (cover found m) (λ x k le. le)

-- ---- walks that go down

-- what is asked for inside is covered
pub record CoversInside {E A : Type 0} (per : Event → ℕ) (f : A → ℕ) (inside : Inside E A) : Type 0 where
  pub part : (e : E) (key : List ℕ) (m : ℕ) → Covers per (beside f m) m (inside.part e key)
  pub parts : (e : E) (key : List ℕ) (m : ℕ) → Covers per (beside (all_of f) m) m (inside.parts e key)
  pub optional_parts : (e : E) (key : List ℕ) (m : ℕ) → Covers per (beside (all_of f) m) m (inside.optional_parts e key)

-- a reader that covers where all that it asks for inside does
abbrev pub ReaderCovers : {E A : Type 0} → (Event → ℕ) → (A → ℕ) → Reader E A → Type 0
ReaderCovers {E} {A} per f read = (e : E) (here : Spot) (inside : Inside E A) → CoversInside per f inside → (m : ℕ) → Covers per (beside f m) m (read e here inside)

found-covers : (o : Ordering) {A : Type 0} (per : Event → ℕ) (f : A → ℕ) (n : ℕ) (here rest : Walk A) → Covers per f n here → Covers per f n rest → Covers per f n (match_ordering o rest here rest)
found-covers Less per f n here rest h r = r
found-covers Equal per f n here rest h r = h
found-covers Greater per f n here rest h r = r

none-covers : {A : Type 0} (per : Event → ℕ) (f : A → ℕ) (m : ℕ) → Covers per (beside (all_of f) m) m (Done [])
none-covers per f m = omega arith

mutual
  pub covers-descend : {E A : Type 0} (per : Event → ℕ) (f : A → ℕ) (read : Reader E A) → ReaderCovers per f read → (e : E) (at : List ℕ) (d : Data) (m : ℕ) → Covers per (beside f m) m (descend read e at d)
  covers-descend per f read covers e at (object ms) m =
      covers e (spot at (object ms)) _
      (record { part = λ g key n. covers-part per f read covers g key at ms n; parts = λ g key n. covers-parts per f read covers g key at ms n; optional_parts = λ g key n. covers-optional_parts per f read covers g key at ms n }) m
  covers-descend per f read covers e at null m = covers e (spot at null) _ (record { part = λ g key n. tt; parts = λ g key n. tt; optional_parts = λ g key n. none-covers per f n }) m
  covers-descend per f read covers e at (boolean b) m = covers e (spot at (boolean b)) _ (record { part = λ g key n. tt; parts = λ g key n. tt; optional_parts = λ g key n. none-covers per f n }) m
  covers-descend per f read covers e at (number k) m = covers e (spot at (number k)) _ (record { part = λ g key n. tt; parts = λ g key n. tt; optional_parts = λ g key n. none-covers per f n }) m
  covers-descend per f read covers e at (string s) m = covers e (spot at (string s)) _ (record { part = λ g key n. tt; parts = λ g key n. tt; optional_parts = λ g key n. none-covers per f n }) m
  covers-descend per f read covers e at (array ds) m = covers e (spot at (array ds)) _ (record { part = λ g key n. tt; parts = λ g key n. tt; optional_parts = λ g key n. none-covers per f n }) m

  covers-part : {E A : Type 0} (per : Event → ℕ) (f : A → ℕ) (read : Reader E A) → ReaderCovers per f read → (e : E) (key at : List ℕ) (ms : Members) (m : ℕ) → Covers per (beside f m) m (part read e key at ms)
  covers-part per f read covers e key at no_members m = tt
  covers-part per f read covers e key at (member k d ms) m =
      found-covers (slice_cmp nat_cmp key k) per (beside f m) m (descend read e (under at key) d) (part read e key at ms) (covers-descend per f read covers e (under at key) d m) (covers-part per f read covers e key at ms m)

  covers-parts : {E A : Type 0} (per : Event → ℕ) (f : A → ℕ) (read : Reader E A) → ReaderCovers per f read → (e : E) (key at : List ℕ) (ms : Members) (m : ℕ) → Covers per (beside (all_of f) m) m (parts read e key at ms)
  covers-parts per f read covers e key at no_members m = tt
  covers-parts per f read covers e key at (member k d ms) m =
      found-covers (slice_cmp nat_cmp key k) per (beside (all_of f) m) m (listed read e (under at key) d) (parts read e key at ms) (covers-listed per f read covers e (under at key) d m) (covers-parts per f read covers e key at ms m)

  covers-optional_parts : {E A : Type 0} (per : Event → ℕ) (f : A → ℕ) (read : Reader E A) → ReaderCovers per f read → (e : E) (key at : List ℕ) (ms : Members) (m : ℕ) → Covers per (beside (all_of f) m) m (optional_parts read e key at ms)
  covers-optional_parts per f read covers e key at no_members m = none-covers per f m
  covers-optional_parts per f read covers e key at (member k d ms) m =
      found-covers (slice_cmp nat_cmp key k) per (beside (all_of f) m) m (listed_or_null read e (under at key) d) (optional_parts read e key at ms) (covers-listed_or_null per f read covers e (under at key) d m) (covers-optional_parts per f read covers e key at ms m)

  covers-listed_or_null : {E A : Type 0} (per : Event → ℕ) (f : A → ℕ) (read : Reader E A) → ReaderCovers per f read → (e : E) (at : List ℕ) (d : Data) (m : ℕ) → Covers per (beside (all_of f) m) m (listed_or_null read e at d)
  covers-listed_or_null per f read covers e at null m = none-covers per f m
  covers-listed_or_null per f read covers e at (boolean b) m = tt
  covers-listed_or_null per f read covers e at (number n) m = tt
  covers-listed_or_null per f read covers e at (string s) m = tt
  covers-listed_or_null per f read covers e at (array ds) m = covers-several per f read covers e at [] ds m m (omega arith)
  covers-listed_or_null per f read covers e at (object ms) m = tt

  covers-listed : {E A : Type 0} (per : Event → ℕ) (f : A → ℕ) (read : Reader E A) → ReaderCovers per f read → (e : E) (at : List ℕ) (d : Data) (m : ℕ) → Covers per (beside (all_of f) m) m (listed read e at d)
  covers-listed per f read covers e at null m = tt
  covers-listed per f read covers e at (boolean b) m = tt
  covers-listed per f read covers e at (number n) m = tt
  covers-listed per f read covers e at (string s) m = tt
  covers-listed per f read covers e at (array ds) m = covers-several per f read covers e at [] ds m m (omega arith)
  covers-listed per f read covers e at (object ms) m = tt

  covers-several : {E A : Type 0} (per : Event → ℕ) (f : A → ℕ) (read : Reader E A) → ReaderCovers per f read → (e : E) (at : List ℕ) (before : List A) (ds : Items) (m n : ℕ) → all_of f before + m ≤ n
      → Covers per (beside (all_of f) m) n (several read e at before ds)
  covers-several per f read covers e at before no_items m n le = le
  covers-several per f read covers e at before (item d ds) m n le =
      covers-then per (beside f n) (beside (all_of f) m) n (descend read e (element at (length before)) d) (λ x. several read e at (before ++ x ∷ []) ds) (covers-descend per f read covers e (element at (length before)) d n)
      (λ x k more. covers-several per f read covers e at (before ++ x ∷ []) ds m k (omega (arith, one-more f before x, more, le)))

-- what stands inside a spot, read so
pub more-before : {A : Type 0} (per : Event → ℕ) (f : A → ℕ) (m n : ℕ) (w : Walk A) → m ≤ n → Covers per (beside f n) n w → Covers per (beside f m) n w
more-before per f m n w le h = covers-less per (beside f n) (beside f m) n w (λ x. omega (arith, le)) h

pub covers-elements : {E A : Type 0} (per : Event → ℕ) (f : A → ℕ) (read : Reader E A) → ReaderCovers per f read → (e : E) (found : Spot) (m : ℕ) → Covers per (beside (all_of f) m) m (elements_at read e found)
covers-elements per f read covers e found m =
    covers-next per (beside (all_of f) m) m (elements found) (each (λ _. at_spot read e) found.at [])
    (λ ds k le. covers-each per f (λ _. at_spot read e) found.at [] ds m k (λ xs here n. covers-descend per f read covers e here.at here.value n) (omega (arith, le)))

pub unwrapped : {A : Type 0} (f : A → ℕ) (m k : ℕ) (found : Option (List A)) → beside (if_any (all_of f)) m found ≤ k → beside (all_of f) m (unwrap_or found []) ≤ k
unwrapped f m k None le = le
unwrapped f m k (Some xs) le = le

pub covers-inside : {E A : Type 0} (per : Event → ℕ) (f : A → ℕ) (read : Reader E A) → ReaderCovers per f read → (here : Spot) → CoversInside per f (inside_of read here)
covers-inside per f read covers here = record {
  part = λ e key m. covers-next per (beside f m) m (needed key here) (at_spot read e) (λ found k le. more-before per f m k (at_spot read e found) le (covers-descend per f read covers e found.at found.value k));
  parts = λ e key m. covers-next per (beside (all_of f) m) m (needed key here) (elements_at read e) (λ found k le. more-before per (all_of f) m k (elements_at read e found) le (covers-elements per f read covers e found k));
  optional_parts = λ e key m.
      covers-then per (beside (if_any (all_of f)) m) (beside (all_of f) m) m (optional key (elements_at read e) here) (λ found. Done (unwrap_or found []))
      (covers-optional per (all_of f) key (elements_at read e) here m (covers-elements per f read covers e)) (λ found k le. unwrapped f m k found le);
}
