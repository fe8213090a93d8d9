-- Numbers of atoms by their classes.
use Rattle.std.proofs.Common.{◌≡◌, ◌==◌, ℕ, zero, suc, ◌+◌, ◌<◌, Bool, true, false, cond, List, [], ◌∷◌, ◌++◌, length, map, get_or, Option, Some, None, slice_get, slice_set, nat_eq, IfSome, refl, sym, ap, ◌∙◌, subst, arith, add-zero}
use Rattle.std.specs.Prelude.{All, position, option_and_then}
use Rattle.std.specs.List.{position_from}
use Rattle.std.proofs.lemmas.Bool.{both_ways}
use Rattle.std.proofs.lemmas.Bool.Decides.{Decides-eqb}
use Rattle.std.proofs.lemmas.Option.{slice_get_within, get_or_from_slice_get}
use Rattle.std.proofs.lemmas.List.Quantifiers.{position-Some}
use Rattle.std.proofs.lemmas.Iterator.Adapters.{position_from-zero}
use Rattle.spec_expressions.specs.Expression.{ExprOf}
use Rattle.spec_features.specs.Fact.{same_fact}
use Rattle.mrs_arena.specs.Expressions.{expr_at}
use Rattle.mrs_arena.specs.declared.expr_id.ExprId.{ExprId}
use Rattle.expr_classes.specs.Classes.{class_in, same_class, AreClasses}
use Rattle.feat_model.specs.Found.{atoms_of, number_in, number_of, AreNumbered}

-- ---- first places

found_last : {X : Type 0} (p : X → Bool) (i : ℕ) (xs : List X) (x : X) → position_from p i xs ≡ None → p x ≡ true → position_from p i (xs ++ x ∷ []) ≡ Some (i + length xs)
found_last p i [] x none h = ap (λ b. cond b (Some i) None) h ∙ ap Some (sym (add-zero i))
found_last p i (y ∷ xs) x none h = go (p y) none (λ e. found_last p (i + 1) xs x e h)
  where
    go : (b : Bool) → cond b (Some i) (position_from p (i + 1) xs) ≡ None → (position_from p (i + 1) xs ≡ None → position_from p (i + 1) (xs ++ x ∷ []) ≡ Some (i + 1 + length xs))
        → cond b (Some i) (position_from p (i + 1) (xs ++ x ∷ [])) ≡ Some (i + length (y ∷ xs))
    go true e later = absurd cc
    go false e later = let same : i + 1 + length xs ≡ i + length (y ∷ xs) = omega arith in later e ∙ ap Some same

passed_last : {X : Type 0} (p : X → Bool) (i : ℕ) (xs : List X) (x : X) → p x ≡ false → position_from p i (xs ++ x ∷ []) ≡ position_from p i xs
passed_last p i [] x h = ap (λ b. cond b (Some i) None) h
passed_last p i (y ∷ xs) x h = ap (λ o. cond (p y) (Some i) o) (passed_last p (i + 1) xs x h)

same_place : {X Y : Type 0} (p : X → Bool) (q : Y → Bool) (f : X → Y) (i : ℕ) (xs : List X) → ((k : ℕ) (x : X) → slice_get xs k ≡ Some x → p x ≡ q (f x)) → position_from p i xs ≡ position_from q i (map f xs)
same_place p q f i [] same = refl
same_place p q f i (x ∷ xs) same =
    ap (λ b. cond b (Some i) (position_from p (i + 1) xs)) (same zero x refl) ∙ ap (λ o. cond (q (f x)) (Some i) o) (same_place p q f (i + 1) xs (λ k y e. same (suc k) y e))

-- ---- an atom that is taken up

abbrev is_of : List (Option ℕ) → ℕ → ExprId → Bool
is_of classes c e = same_class (Some c) (class_in classes e.0)

set_here : (xs : List (Option ℕ)) (k : ℕ) (x : Option ℕ) → k < length xs → number_in (slice_set xs k x) k ≡ x
set_here [] k x lt = absurd (omega (arith, lt))
set_here (y ∷ xs) zero x lt = refl
set_here (y ∷ xs) (suc k) x lt = set_here xs k x (omega (arith, lt))

set_elsewhere : (xs : List (Option ℕ)) (k j : ℕ) (x : Option ℕ) → (j ≡ k → ⊥) → number_in (slice_set xs k x) j ≡ number_in xs j
set_elsewhere [] k j x ne = refl
set_elsewhere (y ∷ xs) zero zero x ne = absurd (ne refl)
set_elsewhere (y ∷ xs) zero (suc j) x ne = refl
set_elsewhere (y ∷ xs) (suc k) zero x ne = refl
set_elsewhere (y ∷ xs) (suc k) (suc j) x ne = set_elsewhere xs k j x (λ e. ne (ap suc e))

set_length : (xs : List (Option ℕ)) (k : ℕ) (x : Option ℕ) → length (slice_set xs k x) ≡ length xs
set_length [] k x = refl
set_length (y ∷ xs) zero x = refl
set_length (y ∷ xs) (suc k) x = ap suc (set_length xs k x)

within_last : (n : ℕ) (xs : List ExprId) (e : ExprId) → All (λ (a : ExprId). a.0 < n) xs → e.0 < n → All (λ (a : ExprId). a.0 < n) (xs ++ e ∷ [])
within_last n xs e all lt k d below = go xs all k below
  where
    go : (xs : List ExprId) → All (λ (a : ExprId). a.0 < n) xs → (k : ℕ) → k < length (xs ++ e ∷ []) → (get_or (xs ++ e ∷ []) k d).0 < n
    go [] all zero below = lt
    go [] all (suc k) below = absurd (omega (arith, below))
    go (x ∷ xs) all zero below = all zero d (omega arith)
    go (x ∷ xs) all (suc k) below = go xs (λ j c h. all (suc j) c (omega (arith, h))) k (omega (arith, below))

pub numbered_more : (classes : List (Option ℕ)) (count : ℕ) (found more : List ExprId) (numbers : List (Option ℕ)) (e : ExprId) (n c : ℕ) → AreNumbered classes count found numbers → e.0 < length classes
    → class_in classes e.0 ≡ Some c → c < count → number_of classes numbers e.0 ≡ None → n ≡ length found → more ≡ found ++ e ∷ [] → AreNumbered classes count more (slice_set numbers c (Some n))
numbered_more classes count found more numbers e n c are within class low new n_is more_is =
    let P : List ExprId → Type 0 = λ xs. AreNumbered classes count xs (slice_set numbers c (Some n)) in
    subst P (sym more_is) (record {
      as_many = set_length numbers c (Some n) ∙ are.as_many;
      within = within_last (length classes) found e are.within within;
      each = λ d lt. go d lt (d == c) refl;
    })
  where
    none : number_in numbers c ≡ None
    none = ap (λ o. option_and_then (number_in numbers) o) (sym class) ∙ new

    go : (d : ℕ) → d < count → (b : Bool) → (d == c) ≡ b → number_in (slice_set numbers c (Some n)) d ≡ position (is_of classes d) (found ++ e ∷ [])
    go d lt true is =
        let same : d ≡ c = (Decides-eqb d c).0 is in
        let Q : ℕ → Type 0 = λ k. number_in (slice_set numbers c (Some n)) k ≡ position (is_of classes k) (found ++ e ∷ []) in
        let mine : is_of classes c e ≡ true = ap (same_class (Some c)) class ∙ (Decides-eqb c c).1 refl in
        let before : position_from (is_of classes c) 0 found ≡ None = sym (position_from-zero (is_of classes c) found) ∙ sym (are.each c low) ∙ none in
        let after : position_from (is_of classes c) 0 (found ++ e ∷ []) ≡ Some (0 + length found) = found_last (is_of classes c) 0 found e before mine in
        let number : n ≡ 0 + length found = omega (arith, n_is) in
        subst Q (sym same) (set_here numbers c (Some n) (omega (arith, are.as_many, low)) ∙ ap Some number ∙ sym after ∙ sym (position_from-zero (is_of classes c) (found ++ e ∷ [])))
    go d lt false is =
        let other : is_of classes d e ≡ false = ap (same_class (Some d)) class ∙ is in
        set_elsewhere numbers c d (Some n) (λ same. both_ways (d == c) is ((Decides-eqb d c).1 same)) ∙ are.each d lt ∙ position_from-zero (is_of classes d) found
        ∙ sym (passed_last (is_of classes d) 0 found e other) ∙ sym (position_from-zero (is_of classes d) (found ++ e ∷ []))

-- ---- the number of a class is the place of the atom

pub number_is : (exprs : List (ExprOf ℕ)) (classes : List (Option ℕ)) (count : ℕ) (found : List ExprId) (numbers : List (Option ℕ)) (e : ℕ) → AreClasses exprs classes → AreNumbered classes count found numbers
    → e < length exprs → IfSome (class_in classes e) (λ c. c < count) → number_of classes numbers e ≡ position (same_fact nat_eq (expr_at exprs e)) (atoms_of exprs found)
number_is exprs classes count found numbers e are numbered lt low =
    places (class_in classes e) refl low ∙ position_from-zero (same_class_of (class_in classes e)) found
    ∙ same_place (same_class_of (class_in classes e)) (same_fact nat_eq (expr_at exprs e)) (λ (a : ExprId). expr_at exprs a.0) 0 found
    (λ k a at. are.same e a.0 lt (below k a at))
    ∙ sym (position_from-zero (same_fact nat_eq (expr_at exprs e)) (atoms_of exprs found))
  where
    same_class_of : Option ℕ → ExprId → Bool
    same_class_of o a = same_class o (class_in classes a.0)

    below : (k : ℕ) (a : ExprId) → slice_get found k ≡ Some a → a.0 < length exprs
    below k a at =
        let P : ExprId → Type 0 = λ b. b.0 < length classes in
        let h : a.0 < length classes = subst P (get_or_from_slice_get found k a a at) (numbered.within k a (slice_get_within found k a at)) in
        omega (arith, h, are.as_many)

    nowhere : (i : ℕ) (xs : List ExprId) → position_from (λ (a : ExprId). same_class None (class_in classes a.0)) i xs ≡ None
    nowhere i [] = refl
    nowhere i (a ∷ xs) = nowhere (i + 1) xs

    places : (o : Option ℕ) → class_in classes e ≡ o → IfSome o (λ c. c < count) → option_and_then (number_in numbers) o ≡ position (λ (a : ExprId). same_class o (class_in classes a.0)) found
    places (Some c) is below = numbered.each c below
    places None is below = sym (position_from-zero (λ (a : ExprId). same_class None (class_in classes a.0)) found ∙ nowhere 0 found)

-- a number is below the count of the atoms
pub number_below : (classes : List (Option ℕ)) (count : ℕ) (found : List ExprId) (numbers : List (Option ℕ)) (c : ℕ) → AreNumbered classes count found numbers → c < count → (o : Option ℕ) → o ≡ number_in numbers c
    → IfSome o (λ n. n < length found)
number_below classes count found numbers c are low None is = tt
number_below classes count found numbers c are low (Some n) is =
    let place : position (is_of classes c) found ≡ Some n = sym (are.each c low) ∙ sym is in
    go found place
  where
    go : (xs : List ExprId) → position (is_of classes c) xs ≡ Some n → n < length xs
    go [] h = absurd cc
    go (x ∷ xs) h = (position-Some (is_of classes c) (x ∷ xs) n x h).0
