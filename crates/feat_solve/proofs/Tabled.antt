-- What the tables beside a trail show, as entries join and are taken back.
use Rattle.std.proofs.Common.{◌≡◌, ◌==◌, ℕ, zero, suc, ◌-◌, ◌<◌, ◌≤◌, ℤ, pos, negsuc, neg_ℤ, nat_abs, Bool, true, false, cond, ◌||◌, ◌⊎◌, inl, inr, List, [], ◌∷◌, ◌++◌, min, reverse, length, set, Option, Some, None, refl, sym, ap, ◌∙◌, subst, ⊎_elim, arith}
use Rattle.std.specs.Prelude.{slice_get, slice_index_or, option_to_list, IsSome, ◌↔◌, is_some}
use Rattle.std.specs.Ordering.{int_eq}
use Rattle.std.proofs.lemmas.Bool.{false≢true, both_ways, or_cases, or_left, or_right}
use Rattle.std.proofs.lemmas.Bool.Decides.{Decides-int_eq, Decides-eqb}
use Rattle.std.proofs.lemmas.List.{get_or-set_same, get_or-set_other, reverse-append, reverse-reverse, length-append}
use Rattle.spec_refutation.specs.Derivation.{has}
use Rattle.feat_solve.specs.Trail.{Entry, literals, valued, decisions, below, last_decided, Complete}
use Rattle.feat_solve.specs.Tables.{place, marked, Shows, IsTabled, IsKept}
use Rattle.feat_solve.proofs.Turns.{slice_get-seam}
use Rattle.feat_solve.proofs.Trails.{is_false, has_valued, valued_has, reverse_cons}

-- a trail with its tables
pub reverse_snoc : {A : Type 0} (xs : List A) (x : A) → reverse (xs ++ (x ∷ [])) ≡ x ∷ reverse xs
reverse_snoc xs x = reverse-append xs (x ∷ [])

tabled_less : (e : Entry) (es : List Entry) (old new : List Bool) (least : ℕ) → IsTabled (e ∷ es) old least
    → ((m : ℤ) → marked new m ≡ cond (int_eq m e.0) false (marked old m)) → 0 < nat_abs e.0
    → IsTabled es new (min least (nat_abs e.0))
tabled_less e es old new least t marks size = record {
  shows = λ m. marks m ∙ go m (int_eq m e.0) refl (t.shows m);
  distinct = t.distinct.1;
  some = omega (arith, t.some, size);
  valued_below = λ x s lt. ⊎_elim
      (λ q. let here : nat_abs e.0 ≡ x = (Decides-eqb (nat_abs e.0) x).0 q in absurd (omega (arith, here, lt)))
      (λ q. q) (or_cases (nat_abs e.0 == x) (valued es x) (t.valued_below x s (omega (arith, lt))));
}
  where
    go : (m : ℤ) (b : Bool) → int_eq m e.0 ≡ b → marked old m ≡ (int_eq m e.0 || has (literals es) m)
        → cond b false (marked old m) ≡ has (literals es) m
    go m true is s = sym (ap (has (literals es)) ((Decides-int_eq m e.0).0 is) ∙ t.distinct.0)
    go m false is s = s ∙ ap (λ b. b || has (literals es) m) is

-- of the entries as they stand, oldest first
pub tabled_popped : (entries left : List Entry) (e : Entry) (old new : List Bool) (least least' : ℕ) → entries ≡ left ++ (e ∷ [])
    → IsTabled (reverse entries) old least → ((m : ℤ) → marked new m ≡ cond (int_eq m e.0) false (marked old m))
    → 0 < nat_abs e.0 → least' ≡ min least (nat_abs e.0) → IsTabled (reverse left) new least'
tabled_popped entries left e old new least least' is t marks size low =
    let P : List Entry → Type 0 = λ es. IsTabled es old least in
    let Q : ℕ → Type 0 = λ n. IsTabled (reverse left) new n in
    subst Q (sym low) (tabled_less e (reverse left) old new least (subst P (ap reverse is ∙ reverse_snoc left e) t) marks size)

-- the last decision is the last of those that are kept
no_last : (es : List Entry) → decisions es ≡ [] → last_decided es ≡ None
no_last [] n = refl
no_last ((l, None) ∷ es) n = absurd cc
no_last ((l, Some h) ∷ es) n = no_last es n

no_below : (es : List Entry) → decisions es ≡ [] → decisions (below es) ≡ []
no_below [] n = refl
no_below ((l, None) ∷ es) n = absurd cc
no_below ((l, Some h) ∷ es) n = no_below es n

some_last : (es : List Entry) (d : ℤ) (ds : List ℤ) → decisions es ≡ d ∷ ds → last_decided es ≡ Some d
some_last [] d ds s = absurd cc
some_last ((l, None) ∷ es) d ds s = let q : l ≡ d = cc in ap Some q
some_last ((l, Some h) ∷ es) d ds s = some_last es d ds s

some_below : (es : List Entry) (d : ℤ) (ds : List ℤ) → decisions es ≡ d ∷ ds → decisions (below es) ≡ ds
some_below [] d ds s = absurd cc
some_below ((l, None) ∷ es) d ds s = cc
some_below ((l, Some h) ∷ es) d ds s = some_below es d ds s

pub popped_decision : (es : List Entry) (decided left : List ℤ) (o : Option ℤ) (n : ℕ) → reverse decided ≡ decisions es
    → decided ≡ left ++ option_to_list o → n ≡ length decided → IsSome o ↔ (0 < n)
    → (o ≡ last_decided es) × (reverse left ≡ decisions (below es))
popped_decision es decided [] None n e is len some =
    let no : decisions es ≡ [] = sym e ∙ ap reverse is in
    (sym (no_last es no), sym (no_below es no))
popped_decision es decided (x ∷ left) None n e is len some = absurd (false≢true (some.1 (omega (arith, len, ap length is))))
popped_decision es decided left (Some d) n e is len some =
    let s : decisions es ≡ d ∷ reverse left = sym e ∙ ap reverse is ∙ reverse_snoc left d in
    (sym (some_last es d (reverse left) s), sym (some_below es d (reverse left) s))

pub last_kept : (es : List Entry) (decided : List ℤ) → reverse decided ≡ decisions es
    → slice_get decided (length decided - 1) ≡ last_decided es
last_kept es decided e = ap (λ ds. slice_get ds (length ds - 1)) (sym (reverse-reverse decided) ∙ ap reverse e) ∙ go (decisions es) refl
  where
    go : (ds : List ℤ) → decisions es ≡ ds → slice_get (reverse ds) (length (reverse ds) - 1) ≡ last_decided es
    go [] is = sym (no_last es is)
    go (d ∷ ds) is =
        let at : length (reverse ds ++ (d ∷ [])) - 1 ≡ length (reverse ds) = omega (arith, length-append (reverse ds) (d ∷ [])) in
        ap (λ xs. slice_get xs (length xs - 1)) (reverse_cons d ds)
        ∙ ap (slice_get (reverse ds ++ (d ∷ []))) at ∙ slice_get-seam (reverse ds) d ∙ sym (some_last es d ds is)

pub valued_marks : (es : List Entry) (table : List Bool) → Shows table (literals es) → (x : ℕ)
    → (marked table (pos x) || marked table (neg_ℤ (pos x))) ≡ valued es x
valued_marks es table s x = ap (λ b. b || marked table (neg_ℤ (pos x))) (s (pos x)) ∙ ap (λ b. has (literals es) (pos x) || b) (s (neg_ℤ (pos x)))
    ∙ go (valued es x) refl
  where
    size : (x : ℕ) → nat_abs (neg_ℤ (pos x)) ≡ x
    size zero = refl
    size (suc n) = refl

    go : (b : Bool) → valued es x ≡ b → (has (literals es) (pos x) || has (literals es) (neg_ℤ (pos x))) ≡ b
    go true v = ⊎_elim (λ q. or_left (has (literals es) (pos x)) (has (literals es) (neg_ℤ (pos x))) q)
        (λ q. or_right (has (literals es) (pos x)) (has (literals es) (neg_ℤ (pos x))) q) (valued_has es x v)
    go false v = is_false (has (literals es) (pos x) || has (literals es) (neg_ℤ (pos x))) (λ h. ⊎_elim
        (λ q. both_ways (valued es x) v (has_valued es (pos x) q))
        (λ q. both_ways (valued es x) v (ap (valued es) (sym (size x)) ∙ has_valued es (neg_ℤ (pos x)) q))
        (or_cases (has (literals es) (pos x)) (has (literals es) (neg_ℤ (pos x))) h))

-- the search for a variable without a value goes on from the one below which each has one
least_valued : (es : List Entry) (table : List Bool) (least n : ℕ) → IsTabled es table least
    → ((x : ℕ) → least ≤ x → x < n → (marked table (pos x) || marked table (neg_ℤ (pos x))) ≡ true)
    → (x : ℕ) → 0 < x → x < n → valued es x ≡ true
least_valued es table least n t before x s lt = ⊎_elim (λ l. t.valued_below x s l)
    (λ l. sym (valued_marks es table t.shows x) ∙ before x l lt) (sides x least)
  where
    sides : (a b : ℕ) → (a < b) ⊎ (b ≤ a)
    sides a zero = inr (omega arith)
    sides zero (suc b) = inl (omega arith)
    sides (suc a) (suc b) = ⊎_elim (λ l. inl (omega (arith, l))) (λ l. inr (omega (arith, l))) (sides a b)

pub kept_further : (es : List Entry) (decided : List ℤ) (table : List Bool) (least n : ℕ) → IsKept es decided table least → least ≤ n
    → ((x : ℕ) → least ≤ x → x < n → (marked table (pos x) || marked table (neg_ℤ (pos x))) ≡ true) → IsKept es decided table n
kept_further es decided table least n k le before = record {
  tabled = record {
    shows = k.tabled.shows;
    distinct = k.tabled.distinct;
    some = omega (arith, k.tabled.some, le);
    valued_below = least_valued es table least n k.tabled before;
  };
  levels = k.levels;
}

pub found_free : (es now : List Entry) → es ≡ now → (table : List Bool) (least n vars : ℕ) → IsTabled es table least → least ≤ n
    → ((x : ℕ) → least ≤ x → x < n → (marked table (pos x) || marked table (neg_ℤ (pos x))) ≡ true) → n ≤ vars
    → (n ≤ vars → (marked table (pos n) || marked table (neg_ℤ (pos n))) ≡ false)
    → (0 < n) × (n ≤ vars) × (valued now n ≡ false) × ((y : ℕ) → 0 < y → y < n → valued now y ≡ true)
found_free es now is table least n vars t le before within here = (
  omega (arith, t.some, le),
  within,
  ap (λ x. valued x n) (sym is) ∙ sym (valued_marks es table t.shows n) ∙ here within,
  λ y s lt. ap (λ x. valued x y) (sym is) ∙ least_valued es table least n t before y s lt,
)

pub none_free : (es now : List Entry) → es ≡ now → (table : List Bool) (least n vars : ℕ) → IsTabled es table least
    → ((x : ℕ) → least ≤ x → x < n → (marked table (pos x) || marked table (neg_ℤ (pos x))) ≡ true) → vars < n
    → Complete vars now
none_free es now is table least n vars t before past x s le =
    ap (λ z. valued z x) (sym is) ∙ least_valued es table least n t before x s (omega (arith, le, past))

pub below_popped : (entries left : List Entry) (l : ℤ) (r : Option ℕ) → entries ≡ left ++ ((l, r) ∷ []) → is_some r ≡ true
    → below (reverse entries) ≡ below (reverse left)
below_popped entries left l None is f = absurd cc
below_popped entries left l (Some h) is f = ap below (ap reverse is ∙ reverse_snoc left (l, Some h))
