-- Each word has one bucket, and no leaf at which the word is found is left out of it.
use Rattle.std.proofs.Common.{◌≡◌, ◌∙◌, sym, ap, refl, subst, ℕ, zero, suc, ◌+◌, ◌<◌, Bool, true, false, cond, ◌&&◌, ◌==◌, List, [], ◌∷◌, length, map, Option, Some, None, All, arith}
use Rattle.std.specs.Prelude.{filter, slice_index_or, Contains, nat_le, is_some}
use Rattle.std.specs.List.{list_all, list_any, AllByRecursion}
use Rattle.std.proofs.lemmas.Bool.Decides.{Decides-eqb}
use Rattle.std.proofs.lemmas.List.Elements.{All-head, All-tail, All-from_recursion}
use Rattle.spec_bits.specs.Bits.{bit_of}
use Rattle.spec_bits.specs.Pattern.{Digit, pattern_holds, value_at}
use Rattle.spec_bits.proofs.PatternLaws.{pattern_holds-each}
use Rattle.spec_expressions.specs.Truth.{Truth, Yes, No, Open}
use Rattle.spec_expressions.specs.Scope.{Configuration}
use Rattle.spec_instructions.specs.Tree.{Own}
use Rattle.spec_instructions.specs.Paths.{path_items}
use Rattle.spec_instructions.specs.Fields.{merged, IsWithinWord}
use Rattle.spec_decode.specs.Verdict.{path_holds, conditions_from, by_items, verdict}
use Rattle.spec_decode.specs.Found.{Candidate, with_leaf, found_from, found}
use Rattle.spec_decode.specs.Bucket.{Encoding, with_encoding, encodings_from, encodings, is_value, is_fixed, fixes_to, splits, highest_split, agreeing, next_bit, Bucket, stop, narrow, BucketsAreOne, found_among, AreWithinWord, BucketsHoldFound}
use Rattle.spec_decode.proofs.HoldLaws.{holds_of, joined-all}

-- ---- one bucket

pub buckets_are_one : BucketsAreOne
buckets_are_one w one other es (stop _ none is) (stop _ none' is') = sym is ∙ is'
buckets_are_one w one other es (stop _ none is) (narrow _ i some rest) = absurd (cc (none, some))
buckets_are_one w one other es (narrow _ i some rest) (stop _ none is) = absurd (cc (some, none))
buckets_are_one w one other es (narrow _ i some rest) (narrow _ j some' rest') =
    let same : i ≡ j = cc (some, some') in
    buckets_are_one w one other (agreeing i (bit_of w i) es) rest (subst (λ k. Bucket w other (agreeing k (bit_of w k) es)) (sym same) rest')

-- ---- the next bit

-- bit i splits: all fix it, some to 0 and some to 1
pub record Splits (i : ℕ) (es : List Encoding) : Type 0 where
  pub fixed : list_all (is_fixed i) es ≡ true
  pub zero_too : list_any (fixes_to i 0) es ≡ true
  pub one_too : list_any (fixes_to i 1) es ≡ true

three : (x y z : Bool) → (x && (y && z)) ≡ true → (x ≡ true) × (y ≡ true) × (z ≡ true)
three true true true e = (refl, refl, refl)
three true true false e = absurd cc
three true false z e = absurd cc
three false y z e = absurd cc

pub Splits-from : (i : ℕ) (es : List Encoding) → splits i es ≡ true → Splits i es
unfolding splits
Splits-from i es e = let h = three (list_all (is_fixed i) es) (list_any (fixes_to i 0) es) (list_any (fixes_to i 1) es) e in record { fixed = h.0; zero_too = h.1; one_too = h.2 }

highest_splits : (n i : ℕ) (es : List Encoding) → highest_split n es ≡ Some i → (i < n) × Splits i es
unfolding highest_split
highest_splits zero i es e = absurd cc
highest_splits (suc n) i es e = go (splits n es) refl (highest_splits n i es) e
  where
    go : (b : Bool) → splits n es ≡ b → (highest_split n es ≡ Some i → (i < n) × Splits i es) → cond b (Some n) (highest_split n es) ≡ Some i → (i < suc n) × Splits i es
    go true is rest e = let same : n ≡ i = cc e in (omega arith, subst (λ k. Splits k es) same (Splits-from n es is))
    go false is rest e = let h = rest e in (omega (arith, h.0), h.1)

-- the next bit is a bit of the word that splits
pub next_bit_splits : (i : ℕ) (es : List Encoding) → next_bit es ≡ Some i → (i < 32) × Splits i es
unfolding next_bit
next_bit_splits i es e = go (nat_le (length es) 8) e
  where
    go : (b : Bool) → cond b None (highest_split 32 es) ≡ Some i → (i < 32) × Splits i es
    go true e = absurd cc
    go false e = highest_splits 32 i es e

-- ---- leaves that are left out

-- digits that fix a bit, and not to the word's, do not hold at the word
apart : (i w : ℕ) (e : Encoding) → is_fixed i e ≡ true → fixes_to i (bit_of w i) e ≡ false → pattern_holds e.digits w ≡ false
unfolding is_fixed fixes_to
apart i w e fixed not_to = go (pattern_holds e.digits w) refl (value_at e.digits i) refl fixed not_to
  where
    go : (b : Bool) → pattern_holds e.digits w ≡ b → (v : Option ℕ) → value_at e.digits i ≡ v → is_some v ≡ true → is_value (bit_of w i) v ≡ false → b ≡ false
    go false holds v is fixed not_to = refl
    go true holds None is fixed not_to = absurd cc
    go true holds (Some u) is fixed not_to = absurd (let same : bit_of w i ≡ u = (pattern_holds-each e.digits w).0 holds i u is in let equal : (u == bit_of w i) ≡ true = (Decides-eqb u (bit_of w i)).1 (sym same) in let no : (u == bit_of w i) ≡ false = not_to in cc (equal, no))

module _ (all : List (List Own)) (g : Configuration) (w : ℕ) where
  abbrev verdict_of : ℕ → Truth
  verdict_of k = verdict (slice_index_or all k []) g w

  -- a leaf whose digits do not hold at the word is excluded
  abbrev Told : Encoding → Type 0
  Told e = pattern_holds e.digits w ≡ false → verdict_of e.leaf ≡ No

  with_no : (k : ℕ) (t : Truth) (others : List Candidate) → t ≡ No → with_leaf k t others ≡ others
  with_no k t others never = ap (λ u. with_leaf k u others) never

  kept : (p : Encoding → Bool) (es : List Encoding) → AllByRecursion Told es → AllByRecursion Told (filter p es)
  kept p [] h = tt
  kept p (e ∷ es) h = go (p e) (kept p es h.1)
    where
      go : (b : Bool) → AllByRecursion Told (filter p es) → AllByRecursion Told (cond b (e ∷ filter p es) (filter p es))
      go true rest = (h.0, rest)
      go false rest = rest

  head_true : (x y : Bool) → (x && y) ≡ true → x ≡ true
  head_true true y e = refl
  head_true false y e = absurd cc

  tail_true : (x y : Bool) → (x && y) ≡ true → y ≡ true
  tail_true true y e = e
  tail_true false y e = absurd cc

  among_agreeing : (i : ℕ) (es : List Encoding) → AllByRecursion Told es → list_all (is_fixed i) es ≡ true → found_among (filter (fixes_to i (bit_of w i)) es) all g w ≡ found_among es all g w
  among_agreeing i [] h fixed = refl
  among_agreeing i (e ∷ es) h fixed = go (fixes_to i (bit_of w i) e) refl (among_agreeing i es h.1 (tail_true (is_fixed i e) (list_all (is_fixed i) es) fixed))
    where
      left : List Encoding
      left = filter (fixes_to i (bit_of w i)) es

      go : (b : Bool) → fixes_to i (bit_of w i) e ≡ b → found_among (filter (fixes_to i (bit_of w i)) es) all g w ≡ found_among es all g w
          → found_among (cond b (e ∷ filter (fixes_to i (bit_of w i)) es) (filter (fixes_to i (bit_of w i)) es)) all g w ≡ with_leaf e.leaf (verdict_of e.leaf) (found_among es all g w)
      go true is rest = ap (with_leaf e.leaf (verdict_of e.leaf)) rest
      go false is rest =
          rest ∙ sym (with_no e.leaf (verdict_of e.leaf) (found_among es all g w) (h.0 (apart i w e (head_true (is_fixed i e) (list_all (is_fixed i) es) fixed) is)))

  among_bucket : (out es : List Encoding) → Bucket w out es → AllByRecursion Told es → found_among out all g w ≡ found_among es all g w
  among_bucket out es (stop _ none is) h = ap (λ l. found_among l all g w) (sym is)
  among_bucket out es (narrow _ i some rest) h =
      among_bucket out (agreeing i (bit_of w i) es) rest (unfold agreeing in kept (fixes_to i (bit_of w i)) es h)
      ∙ (unfold agreeing in among_agreeing i es h (next_bit_splits i es some).1.fixed)

  -- ---- all leaves

  excluded : (path : List Own) → path_holds path w ≡ false → verdict path g w ≡ No
  excluded path fails = ap (λ b. by_items b (conditions_from [] path g w)) fails

  abbrev IsWithin : List Own → Type 0
  IsWithin path = All IsWithinWord (path_items path)

  -- the paths from leaf k on stand at their places
  abbrev Agree : ℕ → List (List Own) → Type 0
  Agree k paths = (j : ℕ) → slice_index_or all (k + j) [] ≡ slice_index_or paths j []

  later : (k : ℕ) (path : List Own) (paths : List (List Own)) → Agree k (path ∷ paths) → Agree (k + 1) paths
  later k path paths agree j = ap (λ n. slice_index_or all n []) (let z : k + 1 + j ≡ k + suc j = omega arith in z) ∙ agree (suc j)

  here : (k : ℕ) (path : List Own) (paths : List (List Own)) → Agree k (path ∷ paths) → verdict_of k ≡ verdict path g w
  here k path paths agree = ap (λ p. verdict p g w) (ap (λ n. slice_index_or all n []) (let z : k ≡ k + 0 = omega arith in z) ∙ agree 0)

  all_told : (k : ℕ) (paths : List (List Own)) → Agree k paths → AreWithinWord paths → AllByRecursion Told (encodings_from k paths)
  all_told k [] agree fit = tt
  all_told k (path ∷ paths) agree fit =
      go (merged path) (joined-all w (path_items path) (All-head IsWithin path paths fit)).holds (all_told (k + 1) paths (later k path paths agree) (All-tail IsWithin path paths fit))
    where
      go : (o : Option (List Digit)) → holds_of o w ≡ path_holds path w → AllByRecursion Told (encodings_from (k + 1) paths) → AllByRecursion Told (with_encoding k o (encodings_from (k + 1) paths))
      go None holds rest = rest
      go (Some ds) holds rest = ((λ fails. here k path paths agree ∙ excluded path (sym holds ∙ fails)), rest)

  among_all : (k : ℕ) (paths : List (List Own)) → Agree k paths → AreWithinWord paths → found_among (encodings_from k paths) all g w ≡ found_from k paths g w
  among_all k [] agree fit = refl
  among_all k (path ∷ paths) agree fit =
      go (merged path) (joined-all w (path_items path) (All-head IsWithin path paths fit)).holds (among_all (k + 1) paths (later k path paths agree) (All-tail IsWithin path paths fit))
    where
      go : (o : Option (List Digit)) → holds_of o w ≡ path_holds path w → found_among (encodings_from (k + 1) paths) all g w ≡ found_from (k + 1) paths g w
          → found_among (with_encoding k o (encodings_from (k + 1) paths)) all g w ≡ with_leaf k (verdict path g w) (found_from (k + 1) paths g w)
      go None holds rest = rest ∙ sym (with_no k (verdict path g w) (found_from (k + 1) paths g w) (excluded path (sym holds)))
      go (Some ds) holds rest = ap (λ t. with_leaf k t (found_among (encodings_from (k + 1) paths) all g w)) (here k path paths agree) ∙ ap (with_leaf k (verdict path g w)) rest

  -- ---- each found leaf

  abbrev Stands : List Encoding → Candidate → Type 0
  Stands es c = Contains (map (λ e. e.leaf) es) c.leaf

  deeper : (e : Encoding) (es : List Encoding) (cs : List Candidate) → AllByRecursion (Stands es) cs → AllByRecursion (Stands (e ∷ es)) cs
  deeper e es [] h = tt
  deeper e es (c ∷ cs) h = ((suc h.0.0, omega (arith, h.0.1), h.0.2), deeper e es cs h.1)

  each_among : (es : List Encoding) → AllByRecursion (Stands es) (found_among es all g w)
  each_among [] = tt
  each_among (e ∷ es) = go (verdict_of e.leaf) (deeper e es (found_among es all g w) (each_among es))
    where
      go : (t : Truth) → AllByRecursion (Stands (e ∷ es)) (found_among es all g w) → AllByRecursion (Stands (e ∷ es)) (with_leaf e.leaf t (found_among es all g w))
      go Yes rest = ((0, omega arith, refl), rest)
      go No rest = rest
      go Open rest = ((0, omega arith, refl), rest)

pub buckets_hold_found : BucketsHoldFound
buckets_hold_found paths g w bucket fit is = record { each = All-from_recursion _ _ (subst (AllByRecursion (Stands paths g w bucket)) same (each_among paths g w bucket)); among = same }
  where
    agree : Agree paths g w 0 paths
    agree j = ap (λ n. slice_index_or paths n []) (let z : 0 + j ≡ j = omega arith in z)

    same : found_among bucket paths g w ≡ found paths g w
    same = among_bucket paths g w bucket (encodings paths) is (all_told paths g w 0 paths agree fit) ∙ among_all paths g w 0 paths agree fit
