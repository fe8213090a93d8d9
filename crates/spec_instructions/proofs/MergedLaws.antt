-- The merged bits of a path are those that its items fix.
use Rattle.std.proofs.Common.{◌≡◌, ◌≢◌, ◌∙◌, sym, ap, refl, ℕ, zero, suc, ◌+◌, ◌-◌, ◌<◌, ◌≤◌, List, [], ◌∷◌, ◌++◌, length, map, not, Option, Some, None, option_and_then, replicate, All, arith, length-append, ◌⊎◌, inl, inr}
use Rattle.std.specs.Option.{option_or}
use Rattle.std.proofs.lemmas.Bool.{cases_eq, cases_lt}
use Rattle.std.proofs.lemmas.List.{length-replicate}
use Rattle.std.proofs.lemmas.List.Elements.{All-head, All-tail}
use Rattle.spec_bits.specs.Pattern.{Digit, Either, value_at, joined}
use Rattle.spec_bits.specs.Item.{Item, fixed_digits, fixes}
use Rattle.spec_bits.proofs.PatternLaws.{Clash, Clash-joined, joined-none, length-joined, value_at-joined, value_at-above}
use Rattle.spec_bits.proofs.ItemLaws.{length-chosen_digits, value_from-below, value_from-from}
use Rattle.spec_bits.proofs.AppendLaws.{value_at-append_low, value_at-append_high, value_at-either}
use Rattle.spec_instructions.specs.Paths.{path_items}
use Rattle.spec_instructions.specs.Fields.{word_digits, joined_items, merged, AreFixing, HaveClash, AreMerged, IsWithinWord, IsExactlyMerged, MergedIsExact}

-- ---- the digits of an item at their place

pub length-word_digits : (it : Item) → IsWithinWord it → length (word_digits it) ≡ 32
length-word_digits it fits =
    let fixed = fixed_digits it in
    let low = replicate it.start Either in
    let high = replicate (32 - (it.start + length it.digits)) Either in
    omega (arith, length-append high (fixed ++ low), length-append fixed low, length-replicate it.start Either, length-replicate (32 - (it.start + length it.digits)) Either, length-chosen_digits it.digits (map not it.marks))

-- those before the lowest ones
value_at-low : (it : Item) (i : ℕ) → value_at (fixed_digits it ++ replicate it.start Either) i ≡ fixes it i
value_at-low it i = go (cases_lt i it.start)
  where
    low : length (replicate it.start Either) ≡ it.start
    low = length-replicate it.start Either

    go : (i < it.start) ⊎ (it.start ≤ i) → value_at (fixed_digits it ++ replicate it.start Either) i ≡ fixes it i
    go (inl below) =
        value_at-append_low (fixed_digits it) (replicate it.start Either) i (omega (arith, low))
        ∙ value_at-either it.start i
        ∙ sym (value_from-below it.start (fixed_digits it) i below)
    go (inr from) =
        value_at-append_high (fixed_digits it) (replicate it.start Either) i (omega (arith, low))
        ∙ ap (λ n. value_at (fixed_digits it) (i - n)) low
        ∙ sym (value_from-from it.start (fixed_digits it) i from)

-- they fix what the item fixes
pub value_at-word_digits : (it : Item) (i : ℕ) → value_at (word_digits it) i ≡ fixes it i
value_at-word_digits it i = go (32 - (it.start + length it.digits)) (fixed_digits it ++ replicate it.start Either) (value_at-low it i)
  where
    go : (high : ℕ) (rest : List Digit) → value_at rest i ≡ fixes it i → value_at (replicate high Either ++ rest) i ≡ fixes it i
    go high rest is = by_place (cases_lt i (length rest))
      where
        by_place : (i < length rest) ⊎ (length rest ≤ i) → value_at (replicate high Either ++ rest) i ≡ fixes it i
        by_place (inl below) = value_at-append_low (replicate high Either) rest i below ∙ is
        by_place (inr from) =
            value_at-append_high (replicate high Either) rest i from
            ∙ value_at-either high (i - length rest)
            ∙ sym (sym is ∙ value_at-above rest i from)

-- ---- what some items fix

later : (it : Item) (items : List Item) (i v : ℕ) → AreFixing items i v → AreFixing (it ∷ items) i v
later it items i v m = (suc m.0, m.1, omega (arith, m.2), m.3, m.4)

-- one item, or one of the others
fixing-cases : (it : Item) (items : List Item) (i v : ℕ) → AreFixing (it ∷ items) i v → (fixes it i ≡ Some v) ⊎ AreFixing items i v
fixing-cases it items i v (zero, x, within, at, fixed) = inl (ap (λ y. fixes y i) at ∙ fixed)
fixing-cases it items i v (suc k, x, within, at, fixed) = inr (k, x, omega arith, at, fixed)

clash-later : (it : Item) (items : List Item) → HaveClash items → HaveClash (it ∷ items)
clash-later it items c = record {
  bit = c.bit;
  first = c.first;
  second = c.second;
  is_first = later it items c.bit c.first c.is_first;
  is_second = later it items c.bit c.second c.is_second;
  differ = c.differ;
}

-- ---- joined items

-- what is said of joined digits
abbrev Says : List Item → Option (List Digit) → Type 0
Says items None = HaveClash items
Says items (Some ds) = AreMerged items ds

or_cases : (o p : Option ℕ) (v : ℕ) → option_or o p ≡ Some v → (o ≡ Some v) ⊎ (p ≡ Some v)
or_cases None p v h = inr h
or_cases (Some u) p v h = inl h

module _ (it : Item) (items : List Item) (fits : IsWithinWord it) (ds : List Digit) (m : AreMerged items ds) where
  same : length (word_digits it) ≡ length ds
  same = length-word_digits it fits ∙ sym m.count

  clashed : Clash (word_digits it) ds → HaveClash (it ∷ items)
  clashed c = record {
    bit = c.at;
    first = c.left;
    second = c.right;
    is_first = (0, it, omega arith, refl, sym (value_at-word_digits it c.at) ∙ c.is_left);
    is_second = later it items c.at c.right ((m.each c.at c.right).0 c.is_right);
    differ = c.differ;
  }

  module _ (js : List Digit) (is : joined (word_digits it) ds ≡ Some js) where
    bit : (i : ℕ) → value_at js i ≡ option_or (fixes it i) (value_at ds i)
    bit i = value_at-joined (word_digits it) ds js is i ∙ ap (λ o. option_or o (value_at ds i)) (value_at-word_digits it i)

    -- where both fix a bit, they agree
    agree : (i u v : ℕ) → fixes it i ≡ Some u → value_at ds i ≡ Some v → u ≡ v
    agree i u v left right = go (cases_eq u v)
      where
        go : (u ≡ v) ⊎ (u ≢ v) → u ≡ v
        go (inl e) = e
        go (inr apart) = absurd (
            let none = Clash-joined (word_digits it) ds (record { at = i; left = u; right = v; is_left = value_at-word_digits it i ∙ left; is_right = right; differ = apart }) in
            let both = sym is ∙ none in cc)

    to_items : (i v : ℕ) → value_at js i ≡ Some v → AreFixing (it ∷ items) i v
    to_items i v h = go (or_cases (fixes it i) (value_at ds i) v (sym (bit i) ∙ h))
      where
        go : (fixes it i ≡ Some v) ⊎ (value_at ds i ≡ Some v) → AreFixing (it ∷ items) i v
        go (inl here) = (0, it, omega arith, refl, here)
        go (inr there) = later it items i v ((m.each i v).0 there)

    from_items : (i v : ℕ) → AreFixing (it ∷ items) i v → value_at js i ≡ Some v
    from_items i v h = bit i ∙ go (fixing-cases it items i v h)
      where
        beside : (o : Option ℕ) → fixes it i ≡ o → value_at ds i ≡ Some v → option_or o (value_at ds i) ≡ Some v
        beside None e there = there
        beside (Some u) e there = ap Some (agree i u v e there)

        go : (fixes it i ≡ Some v) ⊎ AreFixing items i v → option_or (fixes it i) (value_at ds i) ≡ Some v
        go (inl here) = ap (λ o. option_or o (value_at ds i)) here
        go (inr there) = beside (fixes it i) refl ((m.each i v).1 there)

    merged_more : AreMerged (it ∷ items) js
    merged_more = record {
      count = (length-joined (word_digits it) ds js is).0 ∙ length-word_digits it fits;
      each = λ i v. (to_items i v, from_items i v);
    }

joined-step : (it : Item) (items : List Item) → IsWithinWord it → (o : Option (List Digit)) → Says items o → Says (it ∷ items) (option_and_then (joined (word_digits it)) o)
joined-step it items fits None c = clash-later it items c
joined-step it items fits (Some ds) m = go (joined (word_digits it) ds) refl
  where
    go : (o : Option (List Digit)) → joined (word_digits it) ds ≡ o → Says (it ∷ items) o
    go None e = clashed it items fits ds m (joined-none (word_digits it) ds (same it items fits ds m) e)
    go (Some js) e = merged_more it items fits ds m js e

joined-says : (items : List Item) → All IsWithinWord items → Says items (joined_items items)
joined-says [] fit = record {
  count = length-replicate 32 Either;
  each = λ i v. (λ h. absurd (let none = value_at-either 32 i in cc), λ m. absurd (omega (arith, m.2)));
}
joined-says (it ∷ items) fit = joined-step it items (All-head IsWithinWord it items fit) (joined_items items) (joined-says items (All-tail IsWithinWord it items fit))

-- merged digits leave no clash
no_clash : (items : List Item) (ds : List Digit) → AreMerged items ds → HaveClash items → ⊥
no_clash items ds m c = c.differ (let one = (m.each c.bit c.first).1 c.is_first in let two = (m.each c.bit c.second).1 c.is_second in cc)

exactly : (items : List Item) (o : Option (List Digit)) → Says items o → IsExactlyMerged items o
exactly items None c = record { some = λ ds e. absurd (cc); none = (λ _. c, λ _. refl) }
exactly items (Some ds) m = record { some = λ es e. let is : ds ≡ es = cc in rw (sym is) m; none = (λ e. absurd (cc), λ c. absurd (no_clash items ds m c)) }

pub merged_is_exact : MergedIsExact
merged_is_exact path fit = exactly (path_items path) (merged path) (joined-says (path_items path) fit)
