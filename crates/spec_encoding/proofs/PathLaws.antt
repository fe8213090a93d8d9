-- Laws of the shown fields and the bits of a path.
use Rattle.std.proofs.Common.{◌≡◌, ◌≢◌, ◌∙◌, sym, ap, refl, subst, ℕ, zero, suc, ◌+◌, ◌-◌, ◌<◌, ◌≤◌, Bool, true, false, not, ◌||◌, cond, List, [], ◌∷◌, length, map, All, Option, Some, None, arith, ◌⊎◌, inl, inr}
use Rattle.std.specs.Prelude.{filter, is_none, bytes_eq, nat_lt, option_and_then}
use Rattle.std.specs.Option.{option_or}
use Rattle.std.specs.List.{list_any, list_all, range_with_len}
use Rattle.std.proofs.lemmas.Bool.{and_parts, and_from, or_cases, or_left, or_right, or_parts, or_from, false≢true, false_from_ne_true, not-true, not_from_false, true_from_ne_false, cases_eq, leb-true, ltb-true, lt-ltb}
use Rattle.std.proofs.lemmas.Slice.Eq.{bytes_eq-Decides}
use Rattle.std.proofs.lemmas.List.Elements.{All-nil, All-cons, All-head, All-tail, All-filter}
use Rattle.spec_bits.specs.Bits.{bit_of}
use Rattle.spec_bits.specs.Pattern.{Digit, Zero, One, Either, digit_for, digit_value, value_at}
use Rattle.spec_bits.specs.Item.{Item, fixed_digits, should_be_digits, fixes, should_be, item_holds}
use Rattle.spec_bits.proofs.ItemLaws.{item_holds-each}
use Rattle.spec_expressions.specs.Scope.{Configuration}
use Rattle.spec_instructions.specs.Tree.{Own}
use Rattle.spec_instructions.specs.Paths.{path_items}
use Rattle.spec_instructions.specs.Fields.{Field, has_text, is_named, visible_item, visible, fields}
use Rattle.spec_encoding.specs.Parts.{covers}
use Rattle.spec_encoding.specs.Named.{FieldOf}
use Rattle.spec_encoding.specs.PathLayout.{first_fixed, last_should_be, fixed_at, is_open, is_shown, shown, is_free, excluded_at, layout}
use Rattle.spec_encoding.specs.Encoding.{named_field, IsFormed}
use Rattle.spec_encoding.proofs.NamedLaws.{names_distinct, IsPath}
use Rattle.spec_encoding.proofs.ExclusionLaws.{passes}

-- ---- bits that items fix

value-lt : (o : Option Digit) (b : ℕ) → option_and_then digit_value o ≡ Some b → b < 2
value-lt None b h = absurd (cc)
value-lt (Some Zero) b h = let e : 0 ≡ b = cc in omega arith
value-lt (Some One) b h = let e : 1 ≡ b = cc in omega arith
value-lt (Some Either) b h = absurd (cc)

fixes-lt : (it : Item) (i b : ℕ) → fixes it i ≡ Some b → b < 2
fixes-lt it i b h = go (nat_lt i it.start) h
  where
    go : (t : Bool) → cond t None (value_at (fixed_digits it) (i - it.start)) ≡ Some b → b < 2
    go true k = absurd (cc)
    go false k = value-lt (digit_for (fixed_digits it) (i - it.start)) b k

pub first_fixed-lt : (items : List Item) (i b : ℕ) → first_fixed items i ≡ Some b → b < 2
first_fixed-lt [] i b h = absurd (cc)
first_fixed-lt (it ∷ items) i b h = go (first_fixed-lt items i b) (fixes it i) refl h
  where
    go : (first_fixed items i ≡ Some b → b < 2) → (o : Option ℕ) → fixes it i ≡ o → option_or o (first_fixed items i) ≡ Some b → b < 2
    go further None e k = further k
    go further (Some v) e k = fixes-lt it i b (e ∙ k)

pub last_should_be-lt : (items : List Item) (i b : ℕ) → last_should_be items i ≡ Some b → b < 2
last_should_be-lt [] i b h = absurd (cc)
last_should_be-lt (it ∷ items) i b h = go (last_should_be-lt items i b) (last_should_be items i) refl h
  where
    should : (t : Bool) → cond t None (value_at (should_be_digits it) (i - it.start)) ≡ Some b → b < 2
    should true k = absurd (cc)
    should false k = value-lt (digit_for (should_be_digits it) (i - it.start)) b k

    go : (last_should_be items i ≡ Some b → b < 2) → (o : Option ℕ) → last_should_be items i ≡ o → option_or o (should_be it i) ≡ Some b → b < 2
    go further None e k = should (nat_lt i it.start) k
    go further (Some v) e k = further (e ∙ k)

-- a word at which items hold has the bits that they fix
held : (items : List Item) (w i b : ℕ) → list_all (λ it. item_holds it w) items ≡ true → first_fixed items i ≡ Some b → bit_of w i ≡ b
held [] w i b all h = absurd (cc)
held (it ∷ items) w i b all h = go (held items w i b parts.1) (fixes it i) refl h
  where
    parts : (item_holds it w ≡ true) × (list_all (λ it. item_holds it w) items ≡ true)
    parts = and_parts (item_holds it w) (list_all (λ it. item_holds it w) items) all

    go : (first_fixed items i ≡ Some b → bit_of w i ≡ b) → (o : Option ℕ) → fixes it i ≡ o → option_or o (first_fixed items i) ≡ Some b → bit_of w i ≡ b
    go further None e k = further k
    go further (Some v) e k = (item_holds-each it w).0 parts.0 i b (e ∙ k)

-- ---- fields

abbrev pub field_shown : List Own → FieldOf (List ℕ) → Bool
field_shown path f = is_open (fixed_at path) f.start f.width

abbrev Within : FieldOf (List ℕ) → Type 0
Within f = f.start + f.width ≤ 32

visible-within : (items : List Item) → All (λ it. it.start + length it.digits ≤ 32) items → All Within (map named_field (visible items))
visible-within [] all = All-nil Within
visible-within (it ∷ items) all = go it.name (list_any-named) (visible-within items (All-tail (λ it. it.start + length it.digits ≤ 32) it items all))
  where
    list_any-named : List ℕ → Bool
    list_any-named name = list_any (is_named name) items

    go : (o : Option (List ℕ)) → (List ℕ → Bool) → All Within (map named_field (visible items)) → All Within (map named_field (visible_item it o items (visible items)))
    go None t rest = rest
    go (Some name) t rest = pick (list_any (is_named name) items)
      where
        pick : (b : Bool) → All Within (map named_field (cond b (visible items) (record { name = name; start = it.start; width = length it.digits } ∷ visible items)))
        pick true = rest
        pick false = All-cons Within _ (map named_field (visible items)) (All-head (λ it. it.start + length it.digits ≤ 32) it items all) rest

-- a visible field has the name of an item
named-below : (items : List Item) (name : List ℕ) → list_any (λ e. bytes_eq name e.name) (map named_field (visible items)) ≡ true → list_any (is_named name) items ≡ true
named-below [] name h = absurd (cc)
named-below (it ∷ items) name h = go (λ k. or_right (is_named name it) (list_any (is_named name) items) (named-below items name k)) it.name refl h
  where
    go : (list_any (λ e. bytes_eq name e.name) (map named_field (visible items)) ≡ true → list_any (is_named name) (it ∷ items) ≡ true) → (o : Option (List ℕ)) → it.name ≡ o
        → list_any (λ e. bytes_eq name e.name) (map named_field (visible_item it o items (visible items))) ≡ true → list_any (is_named name) (it ∷ items) ≡ true
    go further None e k = further k
    go further (Some n) e k = pick (list_any (is_named n) items) k
      where
        pick : (b : Bool) → list_any (λ e. bytes_eq name e.name) (map named_field (cond b (visible items) (record { name = n; start = it.start; width = length it.digits } ∷ visible items))) ≡ true → list_any (is_named name) (it ∷ items) ≡ true
        pick true k = further k
        pick false k = elim (or_cases (bytes_eq name n) (list_any (λ e. bytes_eq name e.name) (map named_field (visible items))) k) as (λ _. list_any (is_named name) (it ∷ items) ≡ true)
            [ inl here ↦ or_left (is_named name it) (list_any (is_named name) items) (ap (has_text name) e ∙ here) | inr there ↦ further there ]

visible-distinct : (items : List Item) → names_distinct bytes_eq bytes_eq-Decides (map named_field (visible items)) ≡ true
visible-distinct [] = refl
visible-distinct (it ∷ items) = go it.name (visible-distinct items)
  where
    go : (o : Option (List ℕ)) → names_distinct bytes_eq bytes_eq-Decides (map named_field (visible items)) ≡ true → names_distinct bytes_eq bytes_eq-Decides (map named_field (visible_item it o items (visible items))) ≡ true
    go None rest = rest
    go (Some name) rest = pick (list_any (is_named name) items) refl
      where
        pick : (b : Bool) → list_any (is_named name) items ≡ b → names_distinct bytes_eq bytes_eq-Decides (map named_field (cond b (visible items) (record { name = name; start = it.start; width = length it.digits } ∷ visible items))) ≡ true
        pick true e = rest
        pick false e = and_from (not (list_any (λ x. bytes_eq name x.name) (map named_field (visible items)))) _ (not_from_false _ (false_from_ne_true _ (λ h. false≢true (sym e ∙ named-below items name h)))) rest

any-filter : {X : Type 0} (p q : X → Bool) (xs : List X) → list_any q xs ≡ false → list_any q (filter p xs) ≡ false
any-filter p q [] h = refl
any-filter p q (x ∷ xs) h = go (p x) (any-filter p q xs parts.1)
  where
    parts : (q x ≡ false) × (list_any q xs ≡ false)
    parts = or_parts (q x) (list_any q xs) h

    go : (b : Bool) → list_any q (filter p xs) ≡ false → list_any q (cond b (x ∷ filter p xs) (filter p xs)) ≡ false
    go true rest = or_from (q x) (list_any q (filter p xs)) parts.0 rest
    go false rest = rest

distinct-filter : (p : FieldOf (List ℕ) → Bool) (xs : List (FieldOf (List ℕ))) → names_distinct bytes_eq bytes_eq-Decides xs ≡ true → names_distinct bytes_eq bytes_eq-Decides (filter p xs) ≡ true
distinct-filter p [] h = refl
distinct-filter p (x ∷ xs) h = go (p x) (distinct-filter p xs parts.1)
  where
    parts : (not (list_any (λ e. bytes_eq x.name e.name) xs) ≡ true) × (names_distinct bytes_eq bytes_eq-Decides xs ≡ true)
    parts = and_parts (not (list_any (λ e. bytes_eq x.name e.name) xs)) (names_distinct bytes_eq bytes_eq-Decides xs) h

    go : (b : Bool) → names_distinct bytes_eq bytes_eq-Decides (filter p xs) ≡ true → names_distinct bytes_eq bytes_eq-Decides (cond b (x ∷ filter p xs) (filter p xs)) ≡ true
    go true rest = and_from (not (list_any (λ e. bytes_eq x.name e.name) (filter p xs))) _ (not_from_false _ (any-filter p (λ e. bytes_eq x.name e.name) xs (not-true _ parts.0))) rest
    go false rest = rest

-- a field with a bit that is not fixed is shown
range-any : (p : ℕ → Bool) (a n k : ℕ) → a ≤ k → k < a + n → p k ≡ true → list_any p (range_with_len a n) ≡ true
range-any p a zero k from below e = absurd (omega arith)
range-any p a (suc n) k from below e = go (λ further. range-any p (a + 1) n k further (omega (arith, below)) e) (cases_eq k a)
  where
    go : (a + 1 ≤ k → list_any p (range_with_len (a + 1) n) ≡ true) → (k ≡ a) ⊎ (k ≢ a) → list_any p (range_with_len a (suc n)) ≡ true
    go further (inl here) = or_left (p a) (list_any p (range_with_len (a + 1) n)) (ap p (sym here) ∙ e)
    go further (inr apart) = or_right (p a) (list_any p (range_with_len (a + 1) n)) (further (omega arith))

shown-cover : (path : List Own) (fs : List (FieldOf (List ℕ))) (i : ℕ) → fixed_at path i ≡ None → list_any (λ f. covers f.start f.width i) fs ≡ true → list_any (λ f. covers f.start f.width i) (filter (field_shown path) fs) ≡ true
shown-cover path [] i clear h = absurd (cc)
shown-cover path (f ∷ fs) i clear h = go (field_shown path f) refl (shown-cover path fs i clear) (or_cases (covers f.start f.width i) (list_any (λ f. covers f.start f.width i) fs) h)
  where
    here : covers f.start f.width i ≡ true → field_shown path f ≡ true
    here c =
        let place = and_parts _ _ c in
        let from = leb-true f.start i place.0 in
        let below = ltb-true i (f.start + f.width) place.1 in
        let back : f.start + (i - f.start) ≡ i = omega arith in
        range-any (λ k. is_none (fixed_at path (f.start + k))) 0 f.width (i - f.start) (omega arith) (omega arith) (ap (λ j. is_none (fixed_at path j)) back ∙ ap is_none clear)

    go : (b : Bool) → field_shown path f ≡ b → (list_any (λ f. covers f.start f.width i) fs ≡ true → list_any (λ f. covers f.start f.width i) (filter (field_shown path) fs) ≡ true)
        → (covers f.start f.width i ≡ true) ⊎ (list_any (λ f. covers f.start f.width i) fs ≡ true) → list_any (λ f. covers f.start f.width i) (cond b (f ∷ filter (field_shown path) fs) (filter (field_shown path) fs)) ≡ true
    go true e further (inl c) = or_left (covers f.start f.width i) _ c
    go true e further (inr r) = or_right (covers f.start f.width i) _ (further r)
    go false e further (inl c) = absurd (false≢true (sym e ∙ here c))
    go false e further (inr r) = further r

pub shown-named : (path : List Own) (fs : List Field) → filter (field_shown path) (map named_field fs) ≡ map named_field (filter (is_shown path) fs)
shown-named path [] = refl
shown-named path (f ∷ fs) = ap (λ gs. cond (is_shown path f) (named_field f ∷ gs) gs) (shown-named path fs) ∙ go (is_shown path f)
  where
    go : (b : Bool) → cond b (named_field f ∷ map named_field (filter (is_shown path) fs)) (map named_field (filter (is_shown path) fs)) ≡ map named_field (cond b (f ∷ filter (is_shown path) fs) (filter (is_shown path) fs))
    go true = refl
    go false = refl

cover-named : (i : ℕ) (fs : List Field) → list_any (λ f. covers f.start f.width i) (map named_field fs) ≡ list_any (λ f. covers f.start f.width i) fs
cover-named i [] = refl
cover-named i (f ∷ fs) = ap (λ b. covers f.start f.width i || b) (cover-named i fs)

none_is : {X : Type 0} (o : Option X) → is_none o ≡ true → o ≡ None
none_is None h = refl
none_is (Some x) h = absurd (cc)

-- what is known of a path and its shown fields, as the laws of named fields ask for it
pub path-known : (path : List Own) (g : Configuration) → IsFormed path → IsPath bytes_eq bytes_eq-Decides (layout path) (excluded_at path g) (map named_field (shown path))
path-known path g formed = subst (λ fs. IsPath bytes_eq bytes_eq-Decides (layout path) (excluded_at path g) fs) (shown-named path (fields path)) (record {
  within = All-filter (field_shown path) Within (map named_field (fields path)) (visible-within (path_items path) formed);
  distinct = distinct-filter (field_shown path) (map named_field (fields path)) (visible-distinct (path_items path));
  binary = λ i b h. first_fixed-lt (path_items path) i b h;
  unfixed_free = λ i free. none_is (fixed_at path i) (and_parts (is_none (fixed_at path i)) _ (and_parts (nat_lt i 32) _ free).1).0;
  bare_free = λ i free. any-filter (field_shown path) (λ f. covers f.start f.width i) (map named_field (fields path)) (cover-named i (fields path) ∙ not-true _ (and_parts (is_none (fixed_at path i)) _ (and_parts (nat_lt i 32) _ free).1).1);
  whole = λ i below clear bound. shown-cover path (map named_field (fields path)) i clear (cover-named i (fields path) ∙ covered-by i below clear bound);
  kept = λ w none i b h. held (path_items path) w i b (passes [] path g w none).items h;
})
  where
    covered-by : (i : ℕ) → i < 32 → fixed_at path i ≡ None → is_free path i ≡ false → list_any (λ f. covers f.start f.width i) (fields path) ≡ true
    covered-by i below clear bound = true_from_ne_false _ (λ none. false≢true (sym bound ∙ and_from (nat_lt i 32) _ (lt-ltb i 32 below) (and_from (is_none (fixed_at path i)) _ (ap is_none clear) (not_from_false _ none))))
