-- What is found by going through all lists of states is the first configuration that fits.
use Rattle.std.proofs.Common.{◌≡◌, ◌↔◌, ◌⊎◌, inl, inr, refl, sym, ap, ◌∙◌, subst, ℕ, zero, suc, ◌<◌, Bool, true, false, cond, List, [], ◌∷◌, ◌++◌, length, map, find, Option, Some, None, option_map, slice_index_or, arith}
use Rattle.std.specs.List.{list_all}
use Rattle.std.proofs.lemmas.Bool.{and_parts, and_from}
use Rattle.spec_refutation.specs.First.{assignment, Before}
use Rattle.spec_features.specs.Formula.{holds}
use Rattle.spec_features.specs.Theory.{TheoryOf, states}
use Rattle.spec_features.specs.Fits.{PinOf, agrees, Fits, IsFirstFitting}
use Rattle.spec_features.specs.Choice.{all_states, is_fitting, first_fitting}
use Rattle.spec_features.specs.Laws.{FirstIsFound, FirstsAreFound}

-- ---- the order of lists of states

later : {b c : Bool} {g h : List Bool} (before : Before (b ∷ g) (c ∷ h)) (k : ℕ) → before.at ≡ suc k → Before g h
later {b} {c} {g} {h} before k is = record {
  at = k;
  within = omega (arith, before.within, is);
  agree = λ j low. before.agree (suc j) (omega (arith, low, is));
  on = ap (λ n. slice_index_or (b ∷ g) n false) (sym is) ∙ before.on;
  off = ap (λ n. slice_index_or (c ∷ h) n false) (sym is) ∙ before.off;
}

sooner : {g h : List Bool} (b : Bool) → Before g h → Before (b ∷ g) (b ∷ h)
sooner {g} {h} b before = record {
  at = suc before.at;
  within = omega (arith, before.within);
  agree = both;
  on = before.on;
  off = before.off;
}
  where
    both : (k : ℕ) → k < suc before.at → slice_index_or (b ∷ g) k false ≡ slice_index_or (b ∷ h) k false
    both zero low = refl
    both (suc k) low = before.agree k (omega (arith, low))

at_once : (g h : List Bool) → Before (true ∷ g) (false ∷ h)
at_once g h = record { at = 0; within = omega arith; agree = λ k low. absurd (omega (arith, low)); on = refl; off = refl }

-- where they differ at once, the one that is on comes first
not_off_first : (g h : List Bool) → Before (false ∷ g) (true ∷ h) → ⊥
not_off_first g h before = go before.at refl
  where
    go : (n : ℕ) → before.at ≡ n → ⊥
    go zero is = let on = ap (λ k. slice_index_or (false ∷ g) k false) (sym is) ∙ before.on in absurd cc
    go (suc k) is = let agree = before.agree 0 (omega (arith, is)) in absurd cc

-- where they begin alike, what comes behind decides
not_sooner : (b : Bool) (g h : List Bool) → (Before g h → ⊥) → Before (b ∷ g) (b ∷ h) → ⊥
not_sooner b g h never before = go before.at refl
  where
    go : (n : ℕ) → before.at ≡ n → ⊥
    go zero is =
        let on : b ≡ true = ap (λ k. slice_index_or (b ∷ g) k false) (sym is) ∙ before.on in
        let off : b ≡ false = ap (λ k. slice_index_or (b ∷ h) k false) (sym is) ∙ before.off in
        absurd cc
    go (suc k) is = never (later before k is)

-- of two lists as long as each other one comes first, or they are the same
compared : (g h : List Bool) → length g ≡ length h → (g ≡ h) ⊎ (Before g h ⊎ Before h g)
compared [] [] same = inl refl
compared [] (c ∷ h) same = absurd (omega (arith, same))
compared (b ∷ g) [] same = absurd (omega (arith, same))
compared (b ∷ g) (c ∷ h) same = go b c (compared g h (omega (arith, same)))
  where
    go : (b c : Bool) → (g ≡ h) ⊎ (Before g h ⊎ Before h g) → ((b ∷ g) ≡ (c ∷ h)) ⊎ (Before (b ∷ g) (c ∷ h) ⊎ Before (c ∷ h) (b ∷ g))
    go true false rest = inr (inl (at_once g h))
    go false true rest = inr (inr (at_once h g))
    go true true (inl is) = inl (ap (λ xs. true ∷ xs) is)
    go true true (inr (inl before)) = inr (inl (sooner true before))
    go true true (inr (inr before)) = inr (inr (sooner true before))
    go false false (inl is) = inl (ap (λ xs. false ∷ xs) is)
    go false false (inr (inl before)) = inr (inl (sooner false before))
    go false false (inr (inr before)) = inr (inr (sooner false before))

-- ---- the first of all lists that pass a test

record IsLeast (p : List Bool → Bool) (n : ℕ) (g : List Bool) : Type 0 where
  whole : length g ≡ n
  good : p g ≡ true
  first : (others : List Bool) → length others ≡ n → p others ≡ true → Before others g → ⊥

abbrev IsFound : (List Bool → Bool) → ℕ → Option (List Bool) → Type 0
IsFound p n (Some g) = IsLeast p n g
IsFound p n None = (g : List Bool) → length g ≡ n → p g ≡ false

abbrev or_else : Option (List Bool) → Option (List Bool) → Option (List Bool)
or_else (Some g) o = Some g
or_else None o = o

find-append : (p : List Bool → Bool) (xs ys : List (List Bool)) → find p (xs ++ ys) ≡ or_else (find p xs) (find p ys)
find-append p [] ys = refl
find-append p (x ∷ xs) ys = go (p x) (find-append p xs ys)
  where
    go : (b : Bool) → find p (xs ++ ys) ≡ or_else (find p xs) (find p ys) → cond b (Some x) (find p (xs ++ ys)) ≡ or_else (cond b (Some x) (find p xs)) (find p ys)
    go true rest = refl
    go false rest = rest

find-map : (p : List Bool → Bool) (b : Bool) (xs : List (List Bool)) → find p (map (λ g. b ∷ g) xs) ≡ option_map (λ g. b ∷ g) (find (λ g. p (b ∷ g)) xs)
find-map p b [] = refl
find-map p b (x ∷ xs) = go (p (b ∷ x)) (find-map p b xs)
  where
    go : (c : Bool) → find p (map (λ g. b ∷ g) xs) ≡ option_map (λ g. b ∷ g) (find (λ g. p (b ∷ g)) xs)
        → cond c (Some (b ∷ x)) (find p (map (λ g. b ∷ g) xs)) ≡ option_map (λ g. b ∷ g) (cond c (Some x) (find (λ g. p (b ∷ g)) xs))
    go true rest = refl
    go false rest = rest

empty_found : (p : List Bool → Bool) → IsFound p 0 (find p ([] ∷ []))
empty_found p = go (p []) refl
  where
    go : (b : Bool) → p [] ≡ b → IsFound p 0 (cond b (Some []) None)
    go true is = record { whole = refl; good = is; first = λ others whole good before. absurd (omega (arith, before.within)) }
    go false is = none
      where
        none : (g : List Bool) → length g ≡ 0 → p g ≡ false
        none [] whole = is
        none (b ∷ g) whole = absurd (omega (arith, whole))

-- one more state in front
step_found : (p : List Bool → Bool) (n : ℕ) (on off : Option (List Bool)) → IsFound (λ g. p (true ∷ g)) n on → IsFound (λ g. p (false ∷ g)) n off
    → IsFound p (suc n) (or_else (option_map (λ g. true ∷ g) on) (option_map (λ g. false ∷ g) off))
step_found p n (Some g) off one two = record { whole = omega (arith, one.whole); good = one.good; first = least }
  where
    least : (others : List Bool) → length others ≡ suc n → p others ≡ true → Before others (true ∷ g) → ⊥
    least [] whole good before = absurd (omega (arith, whole))
    least (true ∷ hs) whole good before = not_sooner true hs g (one.first hs (omega (arith, whole)) good) before
    least (false ∷ hs) whole good before = not_off_first hs g before
step_found p n None (Some g) one two = record { whole = omega (arith, two.whole); good = two.good; first = least }
  where
    least : (others : List Bool) → length others ≡ suc n → p others ≡ true → Before others (false ∷ g) → ⊥
    least [] whole good before = absurd (omega (arith, whole))
    least (true ∷ hs) whole good before = absurd (let bad = one hs (omega (arith, whole)) in cc)
    least (false ∷ hs) whole good before = not_sooner false hs g (two.first hs (omega (arith, whole)) good) before
step_found p n None None one two = none
  where
    none : (g : List Bool) → length g ≡ suc n → p g ≡ false
    none [] whole = absurd (omega (arith, whole))
    none (true ∷ hs) whole = one hs (omega (arith, whole))
    none (false ∷ hs) whole = two hs (omega (arith, whole))

found : (n : ℕ) (p : List Bool → Bool) → IsFound p n (find p (all_states n))
found zero p = empty_found p
found (suc n) p =
    let one = find (λ g. p (true ∷ g)) (all_states n) in
    let two = find (λ g. p (false ∷ g)) (all_states n) in
    let is : find p (all_states (suc n)) ≡ or_else (option_map (λ g. true ∷ g) one) (option_map (λ g. false ∷ g) two) =
    find-append p (map (λ g. true ∷ g) (all_states n)) (map (λ g. false ∷ g) (all_states n))
    ∙ ap (λ o. or_else o (find p (map (λ g. false ∷ g) (all_states n)))) (find-map p true (all_states n))
    ∙ ap (or_else (option_map (λ g. true ∷ g) one)) (find-map p false (all_states n))
    in
    subst (IsFound p (suc n)) (sym is) (step_found p n one two (found n (λ g. p (true ∷ g))) (found n (λ g. p (false ∷ g))))

same_least : (p : List Bool → Bool) (n : ℕ) (g h : List Bool) → IsLeast p n g → IsLeast p n h → g ≡ h
same_least p n g h one two = go (compared g h (one.whole ∙ sym two.whole))
  where
    go : (g ≡ h) ⊎ (Before g h ⊎ Before h g) → g ≡ h
    go (inl is) = is
    go (inr (inl before)) = absurd (two.first g one.whole one.good before)
    go (inr (inr before)) = absurd (one.first h two.whole two.good before)

-- ---- configurations

module _ {N : Type 0} (same : N → N → Bool) (t : TheoryOf N) (pins : List (PinOf N)) where
  fitting : (g : List Bool) → length g ≡ states t → is_fitting same t pins g ≡ true → Fits same t pins g
  fitting g whole good =
      let both = and_parts (list_all (holds (assignment g)) t.constraints) (list_all (agrees same t.names g) pins) good in
      record { whole = whole; holding = both.0; pinned = both.1 }

  is_fitting-true : (g : List Bool) → Fits same t pins g → is_fitting same t pins g ≡ true
  is_fitting-true g fits = and_from (list_all (holds (assignment g)) t.constraints) (list_all (agrees same t.names g) pins) fits.holding fits.pinned

  least_first : (g : List Bool) → IsLeast (is_fitting same t pins) (states t) g → IsFirstFitting same t pins g
  least_first g least = record {
    fits = fitting g least.whole least.good;
    first = λ others fits before. least.first others fits.whole (is_fitting-true others fits) before;
  }

  first_least : (g : List Bool) → IsFirstFitting same t pins g → IsLeast (is_fitting same t pins) (states t) g
  first_least g first = record {
    whole = first.fits.whole;
    good = is_fitting-true g first.fits;
    first = λ others whole good before. first.first others (fitting others whole good) before;
  }

  pub first_is_found : FirstIsFound same t pins
  first_is_found = let told = go (first_fitting same t pins) (found (states t) (is_fitting same t pins)) in record { first = told.0; none = told.1 }
    where
      go : (o : Option (List Bool)) → IsFound (is_fitting same t pins) (states t) o
          → (first : (g : List Bool) → (o ≡ Some g) ↔ IsFirstFitting same t pins g) × ((o ≡ None) ↔ ((g : List Bool) → Fits same t pins g → ⊥))
      go (Some h) least = (
        λ g. (λ is. least_first g (let one : h ≡ g = cc in subst (IsLeast (is_fitting same t pins) (states t)) one least), λ first. ap Some (same_least (is_fitting same t pins) (states t) h g least (first_least g first))),
        (λ is. absurd cc, λ none. absurd (none h (least_first h least).fits)),
      )
      go None none = (
        λ g. (λ is. absurd cc, λ first. absurd (let bad = none g first.fits.whole in let good = is_fitting-true g first.fits in cc)),
        (λ _ g fits. (let bad = none g fits.whole in let good = is_fitting-true g fits in absurd cc), λ _. refl),
      )

pub firsts_are_found : FirstsAreFound
firsts_are_found t pins = first_is_found _ t pins
