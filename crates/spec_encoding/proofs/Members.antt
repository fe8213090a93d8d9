-- What stands in a list, and what tests and searches say of it.
use Rattle.std.specs.Prelude.{find, is_none, option_map, Any, AllPairs, slice_index_or}
use Rattle.std.proofs.Common.{◌≡◌, ◌∙◌, sym, ap, refl, subst, ℕ, zero, suc, ◌+◌, ◌<◌, Bool, true, false, cond, List, [], ◌∷◌, length, map, All, Option, Some, None, arith, ◌⊎◌, inl, inr}
use Rattle.std.specs.List.{list_any, position_from}
use Rattle.std.proofs.lemmas.Bool.{or_cases, or_from, or_left, or_right, false_from_ne_true, false≢true}
use Rattle.std.proofs.lemmas.List.Elements.{All-nil, All-cons, All-head, All-tail}

abbrev pub In : {X : Type 0} → X → List X → Type 0
In x [] = ⊥
In x (y ∷ ys) = (x ≡ y) ⊎ In x ys

pub any-In : {X : Type 0} (p : X → Bool) (xs : List X) → list_any p xs ≡ true → (x : X) × In x xs × (p x ≡ true)
any-In p [] h = absurd (cc)
any-In {X} p (y ∷ ys) h = go (any-In p ys) (or_cases (p y) (list_any p ys) h)
  where
    go : (list_any p ys ≡ true → (x : X) × In x ys × (p x ≡ true)) → (p y ≡ true) ⊎ (list_any p ys ≡ true) → (x : X) × In x (y ∷ ys) × (p x ≡ true)
    go further (inl e) = (y, inl refl, e)
    go further (inr e) = let w = further e in (w.0, inr w.1, w.2)

pub In-any : {X : Type 0} (p : X → Bool) (xs : List X) (x : X) → In x xs → p x ≡ true → list_any p xs ≡ true
In-any p [] x i e = absurd i
In-any p (y ∷ ys) x (inl s) e = or_left (p y) (list_any p ys) (ap p (sym s) ∙ e)
In-any p (y ∷ ys) x (inr i) e = or_right (p y) (list_any p ys) (In-any p ys x i e)

pub any-none : {X : Type 0} (p : X → Bool) (xs : List X) (x : X) → list_any p xs ≡ false → In x xs → p x ≡ false
any-none p xs x none i = false_from_ne_true (p x) (λ e. false≢true (sym none ∙ In-any p xs x i e))

pub All-In : {X : Type 0} (P : X → Type 0) (xs : List X) (x : X) → All P xs → In x xs → P x
All-In P [] x all i = absurd i
All-In P (y ∷ ys) x all (inl s) = subst P (sym s) (All-head P y ys all)
All-In P (y ∷ ys) x all (inr i) = All-In P ys x (All-tail P y ys all) i

pub All-each : {X : Type 0} (P : X → Type 0) (xs : List X) → ((x : X) → In x xs → P x) → All P xs
All-each P [] each = All-nil P
All-each P (y ∷ ys) each = All-cons P y ys (each y (inl refl)) (All-each P ys (λ x i. each x (inr i)))

pub none-any : {X : Type 0} (p : X → Bool) (xs : List X) → ((x : X) → In x xs → p x ≡ false) → list_any p xs ≡ false
none-any p [] each = refl
none-any p (y ∷ ys) each = or_from (p y) (list_any p ys) (each y (inl refl)) (none-any p ys (λ x i. each x (inr i)))

pub In-map : {X Y : Type 0} (h : X → Y) (xs : List X) (x : X) → In x xs → In (h x) (map h xs)
In-map h [] x i = absurd i
In-map h (y ∷ ys) x (inl s) = inl (ap h s)
In-map h (y ∷ ys) x (inr i) = inr (In-map h ys x i)

pub map-In : {X Y : Type 0} (h : X → Y) (xs : List X) (y : Y) → In y (map h xs) → (x : X) × In x xs × (y ≡ h x)
map-In h [] y i = absurd i
map-In h (x ∷ xs) y (inl s) = (x, inl refl, s)
map-In h (x ∷ xs) y (inr i) = let w = map-In h xs y i in (w.0, inr w.1, w.2)

pub find-In : {X : Type 0} (p : X → Bool) (xs : List X) (x : X) → find p xs ≡ Some x → In x xs
find-In p [] x h = absurd (cc)
find-In {X} p (y ∷ ys) x h = go (find-In p ys x) (p y) h
  where
    go : (find p ys ≡ Some x → In x ys) → (b : Bool) → cond b (Some y) (find p ys) ≡ Some x → In x (y ∷ ys)
    go further true k = inl (cc)
    go further false k = inr (further k)

pub find-passes : {X : Type 0} (p : X → Bool) (xs : List X) (x : X) → find p xs ≡ Some x → p x ≡ true
find-passes p [] x h = absurd (cc)
find-passes {X} p (y ∷ ys) x h = go (find-passes p ys x) (p y) refl h
  where
    go : (find p ys ≡ Some x → p x ≡ true) → (b : Bool) → p y ≡ b → cond b (Some y) (find p ys) ≡ Some x → p x ≡ true
    go further true e k = let same : y ≡ x = cc k in ap p (sym same) ∙ e
    go further false e k = further k

pub find-none : {X : Type 0} (p : X → Bool) (xs : List X) → ((x : X) → In x xs → p x ≡ false) → find p xs ≡ None
find-none p [] each = refl
find-none p (y ∷ ys) each = ap (λ b. cond b (Some y) (find p ys)) (each y (inl refl)) ∙ find-none p ys (λ x i. each x (inr i))

pub none-find : {X : Type 0} (p : X → Bool) (xs : List X) → find p xs ≡ None → (x : X) → In x xs → p x ≡ false
none-find p [] h x i = absurd i
none-find {X} p (y ∷ ys) h x i = go (λ k. none-find p ys k x) (p y) refl h i
  where
    go : (find p ys ≡ None → In x ys → p x ≡ false) → (b : Bool) → p y ≡ b → cond b (Some y) (find p ys) ≡ None → (x ≡ y) ⊎ In x ys → p x ≡ false
    go further true e k j = absurd (cc)
    go further false e k (inl s) = ap p s ∙ e
    go further false e k (inr j) = further k j

pub position-none : {X : Type 0} (p : X → Bool) (k : ℕ) (xs : List X) → ((x : X) → In x xs → p x ≡ false) → position_from p k xs ≡ None
position-none p k [] each = refl
position-none p k (y ∷ ys) each = ap (λ b. cond b (Some k) (position_from p (k + 1) ys)) (each y (inl refl)) ∙ position-none p (k + 1) ys (λ x i. each x (inr i))

pub none-position : {X : Type 0} (p : X → Bool) (k : ℕ) (xs : List X) → position_from p k xs ≡ None → (x : X) → In x xs → p x ≡ false
none-position p k [] h x i = absurd i
none-position {X} p k (y ∷ ys) h x i = go (λ e. none-position p (k + 1) ys e x) (p y) refl h i
  where
    go : (position_from p (k + 1) ys ≡ None → In x ys → p x ≡ false) → (b : Bool) → p y ≡ b → cond b (Some k) (position_from p (k + 1) ys) ≡ None → (x ≡ y) ⊎ In x ys → p x ≡ false
    go further true e n j = absurd (cc)
    go further false e n (inl s) = ap p s ∙ e
    go further false e n (inr j) = further n j

pub not_none : {X : Type 0} (o : Option X) → is_none o ≡ false → (x : X) × (o ≡ Some x)
not_none None h = absurd (cc)
not_none (Some x) h = (x, refl)

pub none_mapped : {X Y : Type 0} (h : X → Y) (o : Option X) → option_map h o ≡ None → o ≡ None
none_mapped h None e = refl
none_mapped h (Some x) e = absurd (cc)

-- ---- std's words

place-In : {X : Type 0} (xs : List X) (k : ℕ) (d : X) → k < length xs → In (slice_index_or xs k d) xs
place-In [] k d lt = absurd (omega arith)
place-In (y ∷ ys) zero d lt = inl refl
place-In (y ∷ ys) (suc k) d lt = inr (place-In ys k d (omega arith))

In-place : {X : Type 0} (xs : List X) (x : X) → In x xs → (k : ℕ) × (k < length xs) × (slice_index_or xs k x ≡ x)
In-place [] x i = absurd i
In-place (y ∷ ys) x (inl s) = (0, omega arith, sym s)
In-place (y ∷ ys) x (inr i) = let w = In-place ys x i in (suc w.0, omega (arith, w.1), w.2)

pub Any-In : {X : Type 0} (P : X → Type 0) (xs : List X) → Any P xs → (x : X) × In x xs × P x
Any-In {X} P xs a = (a.1, subst (λ y. In y xs) a.3 (place-In xs a.0 a.1 a.2), a.4)

pub In-Any : {X : Type 0} (P : X → Type 0) (xs : List X) (x : X) → In x xs → P x → Any P xs
In-Any P xs x i p = let w = In-place xs x i in (w.0, x, w.1, w.2, p)

pub AllPairs-head : {X : Type 0} (R : X → X → Type 0) (x : X) (xs : List X) → AllPairs R (x ∷ xs) → (y : X) → In y xs → R x y
AllPairs-head R x xs all y i = let w = In-place xs y i in subst (R x) w.2 (all 0 (suc w.0) y (omega arith) (omega (arith, w.1)))

pub AllPairs-tail : {X : Type 0} (R : X → X → Type 0) (x : X) (xs : List X) → AllPairs R (x ∷ xs) → AllPairs R xs
AllPairs-tail R x xs all i j d lt below = all (suc i) (suc j) d (omega arith) (omega arith)
