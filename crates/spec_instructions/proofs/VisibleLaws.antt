-- The visible fields are those of the deepest items of their names, in order.
use Rattle.std.proofs.Common.{◌≡◌, ◌≢◌, ◌∙◌, sym, ap, refl, ℕ, zero, suc, ◌<◌, Bool, true, false, ◌||◌, cond, List, [], ◌∷◌, length, slice_get, get_or, Option, Some, None, All, Any, AllPairs, arith}
use Rattle.std.specs.List.{list_any}
use Rattle.std.proofs.lemmas.List.Elements.{All-nil, All-cons, All-weaker}
use Rattle.std.proofs.lemmas.List.Folds.{Any-from_list_any, list_any_at}
use Rattle.std.proofs.lemmas.List.Kept.{AllPairs-cons}
use Rattle.std.proofs.lemmas.Slice.Eq.{bytes_eq-Decides}
use Rattle.spec_bits.specs.Item.{Item}
use Rattle.spec_instructions.specs.Paths.{path_items}
use Rattle.spec_instructions.specs.Fields.{Field, has_text, is_named, visible, visible_item, IsFieldOf, AreVisible, FieldsAreVisible}

-- ---- items of a name

has_text-is : (name : List ℕ) (o : Option (List ℕ)) → has_text name o ≡ true → o ≡ Some name
has_text-is name None h = absurd (cc)
has_text-is name (Some text) h = ap Some (sym ((bytes_eq-Decides name text).0 h))

has_text-own : (name : List ℕ) → has_text name (Some name) ≡ true
has_text-own name = (bytes_eq-Decides name name).1 refl

-- where no item is of the name, each has another
none_named : (name : List ℕ) (items : List Item) → list_any (is_named name) items ≡ false → (j : ℕ) (other : Item) → slice_get items j ≡ Some other → other.name ≢ Some name
none_named name [] none j other at = absurd (cc)
none_named name (it ∷ items) none zero other at = λ named.
    let same : it ≡ other = cc in
    let is : has_text name it.name ≡ true = ap (λ (x : Item). has_text name x.name) same ∙ ap (has_text name) named ∙ has_text-own name in
    let all = list_any_at (is_named name) (it ∷ items) 0 it (omega arith) is in
    absurd (cc)
none_named name (it ∷ items) none (suc j) other at = none_named name items (rest (is_named name it) none) j other at
  where
    rest : (b : Bool) → (b || list_any (is_named name) items) ≡ false → list_any (is_named name) items ≡ false
    rest true h = absurd (cc)
    rest false h = h

-- ---- fields of items behind others

module _ (it : Item) (items : List Item) where
  further : (f : Field) (k : ℕ) → IsFieldOf items f k → IsFieldOf (it ∷ items) f (suc k)
  further f k h = record {
    item = h.item;
    at = h.at;
    name = h.name;
    start = h.start;
    width = h.width;
    deepest = λ j other lt at. deeper j other lt at;
  }
    where
      deeper : (j : ℕ) (other : Item) → suc k < j → slice_get (it ∷ items) j ≡ Some other → other.name ≢ Some f.name
      deeper zero other lt at = absurd (omega arith)
      deeper (suc j) other lt at = h.deepest j other (omega arith) at

  nearer : (f : Field) (k : ℕ) → IsFieldOf (it ∷ items) f (suc k) → IsFieldOf items f k
  nearer f k h = record {
    item = h.item;
    at = h.at;
    name = h.name;
    start = h.start;
    width = h.width;
    deepest = λ j other lt at. h.deepest (suc j) other (omega arith) at;
  }

  -- the first item is not the deepest of a name that one behind has
  not_first : (f : Field) (k : ℕ) → IsFieldOf items f k → IsFieldOf (it ∷ items) f 0 → ⊥
  not_first f k h first = first.deepest (suc k) h.item (omega arith) h.at h.name

abbrev IsOfSome : List Item → Field → Type 0
IsOfSome items field = (k : ℕ) × IsFieldOf items field k

abbrev IsBefore : List Item → Field → Field → Type 0
IsBefore items first second = (j k : ℕ) → IsFieldOf items first j → IsFieldOf items second k → j < k

before-further : (it : Item) (items : List Item) (f g : Field) → IsOfSome items f → IsOfSome items g → IsBefore items f g → IsBefore (it ∷ items) f g
before-further it items f g m n before zero k first second = absurd (not_first it items f m.0 m.1 first)
before-further it items f g m n before (suc j) zero first second = absurd (not_first it items g n.0 n.1 second)
before-further it items f g m n before (suc j) (suc k) first second =
    let low = before j k (nearer it items f j first) (nearer it items g k second) in omega arith

-- pairs of elements of which something holds
pairs_weaker : {X : Type 0} (P : X → Type 0) (R S : X → X → Type 0) → ((x y : X) → P x → P y → R x y → S x y) → (xs : List X) → All P xs → AllPairs R xs → AllPairs S xs
pairs_weaker P R S step xs all pairs i j d lt within = step (get_or xs i d) (get_or xs j d) (all i d (omega arith)) (all j d within) (pairs i j d lt within)

any-later : {X : Type 0} (P : X → Type 0) (x : X) (xs : List X) → Any P xs → Any P (x ∷ xs)
any-later P x xs m = (suc m.0, m.1, omega (arith, m.2), m.3, m.4)

-- ---- one item more

abbrev HasItsField : List Field → Item → Type 0
HasItsField fs it = (name : List ℕ) → it.name ≡ Some name → Any (λ field. field.name ≡ name) fs

-- whose name is hidden, or that has none
hidden : (it : Item) (items : List Item) (fs : List Field) → AreVisible items fs → HasItsField fs it → AreVisible (it ∷ items) fs
hidden it items fs v own = record {
  each = All-weaker (IsOfSome items) (IsOfSome (it ∷ items)) (λ f m. (suc m.0, further it items f m.0 m.1)) fs v.each;
  every = All-cons (HasItsField fs) it items own v.every;
  once = v.once;
  order = pairs_weaker (IsOfSome items) (IsBefore items) (IsBefore (it ∷ items)) (before-further it items) fs v.each v.order;
}

module _ (it : Item) (name : List ℕ) (named : it.name ≡ Some name) (items : List Item) (none : list_any (is_named name) items ≡ false) (fs : List Field) (v : AreVisible items fs) where
  abbrev new : Field
  new = record { name = name; start = it.start; width = length it.digits }

  first : IsFieldOf (it ∷ items) new 0
  first = record {
    item = it;
    at = refl;
    name = named;
    start = refl;
    width = refl;
    deepest = deeper;
  }
    where
      deeper : (j : ℕ) (other : Item) → 0 < j → slice_get (it ∷ items) j ≡ Some other → other.name ≢ Some name
      deeper zero other lt at = absurd (omega arith)
      deeper (suc j) other lt at = none_named name items none j other at

  -- the item behind which nothing of its name stands is the deepest
  only_first : (j : ℕ) → IsFieldOf (it ∷ items) new j → j ≡ 0
  only_first zero h = refl
  only_first (suc j) h = absurd (none_named name items none j h.item h.at h.name)

  others : (f : Field) → IsOfSome items f → name ≢ f.name
  others f m same = none_named name items none m.0 m.1.item m.1.at (m.1.name ∙ ap Some (sym same))

  new-before : (f : Field) → IsOfSome items f → IsBefore (it ∷ items) new f
  new-before f m j zero h g = absurd (not_first it items f m.0 m.1 g)
  new-before f m j (suc k) h g = let low = only_first j h in omega arith

  shown : AreVisible (it ∷ items) (new ∷ fs)
  shown = record {
    each = All-cons (IsOfSome (it ∷ items)) new fs (0, first) (All-weaker (IsOfSome items) (IsOfSome (it ∷ items)) (λ f m. (suc m.0, further it items f m.0 m.1)) fs v.each);
    every = All-cons (HasItsField (new ∷ fs)) it items own (All-weaker (HasItsField fs) (HasItsField (new ∷ fs)) (λ x has text is. any-later (λ field. field.name ≡ text) new fs (has text is)) items v.every);
    once = AllPairs-cons (λ f g. f.name ≢ g.name) new fs (All-weaker (IsOfSome items) (λ f. name ≢ f.name) others fs v.each) v.once;
    order = AllPairs-cons (IsBefore (it ∷ items)) new fs
        (All-weaker (IsOfSome items) (IsBefore (it ∷ items) new) new-before fs v.each)
        (pairs_weaker (IsOfSome items) (IsBefore items) (IsBefore (it ∷ items)) (before-further it items) fs v.each v.order);
  }
    where
      own : HasItsField (new ∷ fs) it
      own text is = (0, new, omega arith, refl, let same : Some name ≡ Some text = sym named ∙ is in cc)

visible-step : (it : Item) (items : List Item) (fs : List Field) → AreVisible items fs → (o : Option (List ℕ)) → it.name ≡ o → AreVisible (it ∷ items) (visible_item it o items fs)
visible-step it items fs v None unnamed = hidden it items fs v (λ name is. absurd (cc))
visible-step it items fs v (Some name) named = go (list_any (is_named name) items) refl
  where
    -- a name that one behind has is the name of a field
    seen : list_any (is_named name) items ≡ true → HasItsField fs it
    seen some text is =
        let m = Any-from_list_any (is_named name) items some in
        let same : Some name ≡ Some text = sym named ∙ is in
        let whose : m.1.name ≡ Some text = has_text-is name m.1.name m.4 ∙ same in
        v.every m.0 m.1 m.2 text (ap (λ (x : Item). x.name) m.3 ∙ whose)

    go : (b : Bool) → list_any (is_named name) items ≡ b → AreVisible (it ∷ items) (cond b fs (record { name = name; start = it.start; width = length it.digits } ∷ fs))
    go true some = hidden it items fs v (seen some)
    go false none = shown it name named items none fs v

pub are_visible : (items : List Item) → AreVisible items (visible items)
are_visible [] = record {
  each = All-nil (IsOfSome []);
  every = All-nil (HasItsField []);
  once = λ i j d lt within. absurd (omega arith);
  order = λ i j d lt within. absurd (omega arith);
}
are_visible (it ∷ items) = visible-step it items (visible items) (are_visible items) it.name refl

pub fields_are_visible : FieldsAreVisible
fields_are_visible path = are_visible (path_items path)
