-- Laws of labels: which leaf is found by one, and that no two leaves have one where no name holds `#`.
use Rattle.std.proofs.Common.{◌≡◌, ◌≢◌, ◌∙◌, sym, ap, refl, subst, ℕ, zero, suc, ◌+◌, ◌<◌, ◌≤◌, Bool, true, false, ◌&&◌, nat_le, nat_lt, cond, List, [], ◌∷◌, ◌++◌, length, get_or, Option, Some, None, All, bytes_eq, decimal, find, count_by, arith, ◌⊎◌, inl, inr}
use Rattle.std.specs.List.{list_all, range_with_len}
use Rattle.std.proofs.lemmas.Bool.{cases_eq, lt-ltb}
use Rattle.std.proofs.lemmas.Fmt.{decimal_injective}
use Rattle.std.proofs.lemmas.List.Sums.{sum_by-cons}
use Rattle.std.proofs.lemmas.List.Elements.{All-nil, All-cons, All-head, All-tail}
use Rattle.std.proofs.lemmas.Slice.Eq.{bytes_eq-Decides}
use Rattle.spec_walk.specs.Limits.{leaf_limit}
use Rattle.spec_instructions.specs.Name.{is_name, is_name_byte}
use Rattle.spec_instructions.specs.Tree.{Own}
use Rattle.spec_instructions.specs.Paths.{path_name, namesakes, label, has_label, labelled_path, IsFirstLabelled, IsFoundByLabel, LabelsFindLeaves, AreTold, LabelsTellLeaves}

-- ---- the first number that passes a test

module _ (p : ℕ → Bool) where
  -- number k passes, of those from a number on, and none before it
  record IsFirst (from count k : ℕ) : Type 0 where
    low : from ≤ k
    high : k < from + count
    passes : p k ≡ true
    first : (j : ℕ) → from ≤ j → j < k → p j ≡ false

  -- what was found
  abbrev Finds : ℕ → ℕ → Option ℕ → Type 0
  Finds from count None = (k : ℕ) → from ≤ k → k < from + count → p k ≡ false
  Finds from count (Some k) = IsFirst from count k

  step : (from count : ℕ) (b : Bool) → p from ≡ b → (o : Option ℕ) → Finds (from + 1) count o → Finds from (suc count) (cond b (Some from) o)
  step from count true e o rest = record { low = omega arith; high = omega arith; passes = e; first = λ j l h. absurd (omega arith) }
  step from count false e None rest = λ k l h. go k l h (cases_eq k from)
    where
      go : (k : ℕ) → from ≤ k → k < from + suc count → (k ≡ from) ⊎ (k ≢ from) → p k ≡ false
      go k l h (inl here) = ap p here ∙ e
      go k l h (inr apart) = rest k (omega arith) (omega arith)
  step from count false e (Some i) rest = record { low = omega (arith, rest.low); high = omega (arith, rest.high); passes = rest.passes; first = λ j l h. go j l h (cases_eq j from) }
    where
      go : (j : ℕ) → from ≤ j → j < i → (j ≡ from) ⊎ (j ≢ from) → p j ≡ false
      go j l h (inl here) = ap p here ∙ e
      go j l h (inr apart) = rest.first j (omega arith) h

  finds : (from count : ℕ) → Finds from count (find p (range_with_len from count))
  finds from zero = λ k l h. absurd (omega arith)
  finds from (suc count) = step from count (p from) refl (find p (range_with_len (from + 1) count)) (finds (from + 1) count)

-- ---- the leaf of a label

not_labelled : (paths : List (List Own)) (text : List ℕ) (k : ℕ) → has_label paths text k ≡ false → label paths k ≢ text
not_labelled paths text k other same = let yes = (bytes_eq-Decides (label paths k) text).1 same in absurd (cc)

first_labelled : (paths : List (List Own)) (text : List ℕ) (k : ℕ) → IsFirst (has_label paths text) 0 (length paths) k → IsFirstLabelled paths text k
first_labelled paths text k f = record {
  within = omega (arith, f.high);
  has = (bytes_eq-Decides (label paths k) text).0 f.passes;
  first = λ j before. not_labelled paths text j (f.first j (omega arith) before);
}

-- one leaf at most is the first
one_first : (paths : List (List Own)) (text : List ℕ) (j k : ℕ) → IsFirstLabelled paths text j → IsFirstLabelled paths text k → j ≡ k
one_first paths text j k f g = go (cases_eq j k)
  where
    open_lower : j ≢ k → j ≡ k
    open_lower apart = absurd (either (lower apart))
      where
        lower : j ≢ k → (j < k) ⊎ (k < j)
        lower apart = grind arith

        either : (j < k) ⊎ (k < j) → ⊥
        either (inl below) = g.first j below f.has
        either (inr above) = f.first k above g.has

    go : (j ≡ k) ⊎ (j ≢ k) → j ≡ k
    go (inl same) = same
    go (inr apart) = open_lower apart

found-by : (paths : List (List Own)) (text : List ℕ) (o : Option ℕ) → labelled_path paths text ≡ o → Finds (has_label paths text) 0 (length paths) o → IsFoundByLabel paths text
found-by paths text None e none = record {
  some = λ k. (λ h. absurd (cc), λ f. absurd (not_labelled paths text k (none k (omega arith) (omega (arith, f.within))) f.has));
  none = (λ _ k within. not_labelled paths text k (none k (omega arith) (omega arith)), λ _. e);
}
found-by paths text (Some i) e f =
    let first = first_labelled paths text i f in record {
      some = λ k. (λ h. let same : i ≡ k = cc in subst (IsFirstLabelled paths text) same first, λ g. e ∙ ap Some (one_first paths text i k first g));
      none = (λ h. absurd (cc), λ none. absurd (none i first.within first.has));
    }

pub labels_find_leaves : LabelsFindLeaves
labels_find_leaves paths text = found-by paths text (labelled_path paths text) refl (finds (has_label paths text) 0 (length paths))

-- ---- names hold no `#`

abbrev HasNoSharp : List ℕ → Type 0
HasNoSharp text = All (λ b. b ≢ 35) text

byte-no_sharp : (b : ℕ) → is_name_byte b ≡ true → b ≢ 35
byte-no_sharp b h e = let same = ap is_name_byte e in absurd (cc)

bytes-no_sharp : (text : List ℕ) → list_all is_name_byte text ≡ true → HasNoSharp text
bytes-no_sharp [] h = All-nil (λ b. b ≢ 35)
bytes-no_sharp (b ∷ text) h = go (is_name_byte b) refl h (bytes-no_sharp text)
  where
    go : (r : Bool) → is_name_byte b ≡ r → (r && list_all is_name_byte text) ≡ true → (list_all is_name_byte text ≡ true → HasNoSharp text) → HasNoSharp (b ∷ text)
    go true e h rest = All-cons (λ c. c ≢ 35) b text (byte-no_sharp b e) (rest h)
    go false e h rest = absurd (cc)

name-no_sharp : (text : List ℕ) → is_name text ≡ true → HasNoSharp text
name-no_sharp text h = go (nat_le 1 (length text) && nat_le (length text) 128) (list_all is_name_byte text) refl h
  where
    go : (a b : Bool) → list_all is_name_byte text ≡ b → (a && b) ≡ true → HasNoSharp text
    go true true e h = bytes-no_sharp text e
    go true false e h = absurd (cc)
    go false b e h = absurd (cc)

-- what stands before and behind the first `#`
record IsSplit (m n ds es : List ℕ) : Type 0 where
  before : m ≡ n
  behind : ds ≡ es

split : (m n ds es : List ℕ) → HasNoSharp m → HasNoSharp n → m ++ 35 ∷ ds ≡ n ++ 35 ∷ es → IsSplit m n ds es
split [] [] ds es hm hn e = record { before = refl; behind = cc }
split [] (b ∷ n) ds es hm hn e = absurd (All-head (λ c. c ≢ 35) b n hn (cc))
split (a ∷ m) [] ds es hm hn e = absurd (All-head (λ c. c ≢ 35) a m hm (cc))
split (a ∷ m) (b ∷ n) ds es hm hn e =
    let head : a ≡ b = cc in
    let rest = split m n ds es (All-tail (λ c. c ≢ 35) a m hm) (All-tail (λ c. c ≢ 35) b n hn) (cc) in
    record { before = ap (λ c. c ∷ m) head ∙ ap (λ t. b ∷ t) rest.before; behind = rest.behind }

no_sharp_inside : (m ds : List ℕ) → HasNoSharp (m ++ 35 ∷ ds) → ⊥
no_sharp_inside [] ds h = All-head (λ c. c ≢ 35) 35 ds h refl
no_sharp_inside (a ∷ m) ds h = no_sharp_inside m ds (All-tail (λ c. c ≢ 35) a (m ++ 35 ∷ ds) h)

-- ---- two leaves of a name are counted

module _ {X : Type 0} (p : X → Bool) where
  count-cons : (x : X) (xs : List X) → count_by p (x ∷ xs) ≡ cond (p x) 1 0 + count_by p xs
  count-cons x xs = sum_by-cons (λ y. cond (p y) 1 0) x xs

  count-one : (xs : List X) (k : ℕ) (d : X) → k < length xs → p (get_or xs k d) ≡ true → 1 ≤ count_by p xs
  count-one [] k d within h = absurd (omega arith)
  count-one (x ∷ xs) zero d within h = let c = count-cons x xs ∙ ap (λ b. cond b 1 0 + count_by p xs) h in omega (arith, c)
  count-one (x ∷ xs) (suc k) d within h = let c = count-cons x xs in omega (arith, c, count-one xs k d (omega arith) h)

  count-two : (xs : List X) (j k : ℕ) (d : X) → j < k → k < length xs → p (get_or xs j d) ≡ true → p (get_or xs k d) ≡ true → 2 ≤ count_by p xs
  count-two [] j k d lt within g h = absurd (omega arith)
  count-two (x ∷ xs) j zero d lt within g h = absurd (omega arith)
  count-two (x ∷ xs) zero (suc k) d lt within g h =
      let c = count-cons x xs ∙ ap (λ b. cond b 1 0 + count_by p xs) g in omega (arith, c, count-one xs k d (omega arith) h)
  count-two (x ∷ xs) (suc j) (suc k) d lt within g h =
      let c = count-cons x xs in omega (arith, c, count-two xs j k d (omega arith) (omega arith) g h)

-- ---- labels of two leaves

module _ (paths : List (List Own)) (few : length paths ≤ leaf_limit) (names : All (λ path. is_name (path_name path) ≡ true) paths) where
  abbrev name_of : ℕ → List ℕ
  name_of k = path_name (get_or paths k [])

  abbrev is_shared : ℕ → Bool
  is_shared k = nat_lt 1 (namesakes (name_of k) paths)

  no_sharp : (k : ℕ) → k < length paths → HasNoSharp (name_of k)
  no_sharp k within = name-no_sharp (name_of k) (names k [] within)

  shared : (j k : ℕ) → j < k → k < length paths → name_of j ≡ name_of k → (is_shared j ≡ true) × (is_shared k ≡ true)
  shared j k lt within same =
      let own = (bytes_eq-Decides (name_of j) (name_of j)).1 refl in
      let other = (bytes_eq-Decides (name_of j) (name_of k)).1 same in
      let two = count-two (λ path. bytes_eq (name_of j) (path_name path)) paths j k [] lt within own other in
      let yes : is_shared j ≡ true = lt-ltb 1 (namesakes (name_of j) paths) (omega arith) in
      (yes, ap (λ n. nat_lt 1 (namesakes n paths)) (sym same) ∙ yes)

  some_shared : (j k : ℕ) → j ≢ k → j < length paths → k < length paths → name_of j ≡ name_of k → is_shared j ≡ true
  some_shared j k apart hj hk same = go (order)
    where
      order : (j < k) ⊎ (k < j)
      order = grind arith

      go : (j < k) ⊎ (k < j) → is_shared j ≡ true
      go (inl below) = (shared j k below hk same).0
      go (inr above) = (shared k j above hj (sym same)).1

  told : (j k : ℕ) → j < length paths → k < length paths → (a b : Bool) → is_shared j ≡ a → is_shared k ≡ b
      → cond a (name_of j ++ 35 ∷ decimal j) (name_of j) ≡ cond b (name_of k ++ 35 ∷ decimal k) (name_of k) → j ≡ k
  told j k hj hk true true ea eb same =
      decimal_injective j k (omega (arith, few)) (omega (arith, few)) (split (name_of j) (name_of k) (decimal j) (decimal k) (no_sharp j hj) (no_sharp k hk) same).behind
  told j k hj hk true false ea eb same = absurd (no_sharp_inside (name_of j) (decimal j) (subst HasNoSharp (sym same) (no_sharp k hk)))
  told j k hj hk false true ea eb same = absurd (no_sharp_inside (name_of k) (decimal k) (subst HasNoSharp same (no_sharp j hj)))
  told j k hj hk false false ea eb same = go (cases_eq j k)
    where
      go : (j ≡ k) ⊎ (j ≢ k) → j ≡ k
      go (inl e) = e
      go (inr apart) = absurd (let yes = some_shared j k apart hj hk same in cc)

  distinct : (j k : ℕ) → j < length paths → k < length paths → label paths j ≡ label paths k → j ≡ k
  distinct j k hj hk same = told j k hj hk (is_shared j) (is_shared k) refl refl same

  are_told : AreTold paths
  are_told = record {
    distinct = distinct;
    found = λ k within. ((labels_find_leaves paths (label paths k)).some k).1 (record {
      within = within;
      has = refl;
      first = λ j before same. let e = distinct j k (omega arith) within same in absurd (omega arith);
    });
  }

pub labels_tell_leaves : LabelsTellLeaves
labels_tell_leaves paths few names = are_told paths few names
