-- At most 32 bits are looked at one after another: each of them is settled from then on, and was not before.
use Rattle.std.proofs.Common.{◌≡◌, ◌≢◌, ◌∙◌, sym, ap, refl, ℕ, zero, suc, ◌+◌, ◌<◌, ◌≤◌, Bool, true, false, cond, ◌||◌, ◌&&◌, List, [], ◌∷◌, Some, arith, ◌⊎◌, inl, inr}
use Rattle.std.specs.Prelude.{filter}
use Rattle.std.specs.List.{list_all, list_any}
use Rattle.std.proofs.lemmas.Bool.{cases_eq}
use Rattle.spec_decode.specs.Bucket.{Encoding, fixes_to, next_bit, agreeing}
use Rattle.spec_decode.proofs.BucketLaws.{Splits, next_bit_splits}
use Rattle.insn_decode.proofs.SplitLaws.{one_value}

-- ---- counts

-- how many numbers below n pass a test
abbrev pub count_below : ℕ → (ℕ → Bool) → ℕ
count_below zero p = 0
count_below (suc n) p = cond (p n) 1 0 + count_below n p

pub count_most : (n : ℕ) (p : ℕ → Bool) → count_below n p ≤ n
count_most zero p = omega arith
count_most (suc n) p = go (p n) (count_most n p)
  where
    go : (b : Bool) → count_below n p ≤ n → cond b 1 0 + count_below n p ≤ suc n
    go true rest = omega (arith, rest)
    go false rest = omega (arith, rest)

module _ (p q : ℕ → Bool) (more : (j : ℕ) → p j ≡ true → q j ≡ true) where
  count_stays : (n : ℕ) → count_below n p ≤ count_below n q
  count_stays zero = omega arith
  count_stays (suc n) = go (p n) refl (q n) refl (count_stays n)
    where
      go : (b : Bool) → p n ≡ b → (c : Bool) → q n ≡ c → count_below n p ≤ count_below n q → cond b 1 0 + count_below n p ≤ cond c 1 0 + count_below n q
      go true is true also rest = omega (arith, rest)
      go true is false also rest = absurd (let yes : q n ≡ true = more n is in cc (yes, also))
      go false is true also rest = omega (arith, rest)
      go false is false also rest = omega (arith, rest)

  count_grows : (n i : ℕ) → i < n → p i ≡ false → q i ≡ true → count_below n p + 1 ≤ count_below n q
  count_grows zero i lt was is = absurd (omega arith)
  count_grows (suc n) i lt was is = go (cases_eq i n) (count_grows n i)
    where
      here : (b : Bool) → p n ≡ b → (c : Bool) → q n ≡ c → b ≡ false → c ≡ true → cond b 1 0 + count_below n p + 1 ≤ cond c 1 0 + count_below n q
      here true e c f never passes = absurd (cc never)
      here false e true f never passes = omega (arith, count_stays n)
      here false e false f never passes = absurd (cc passes)

      there : (b : Bool) → p n ≡ b → (c : Bool) → q n ≡ c → count_below n p + 1 ≤ count_below n q → cond b 1 0 + count_below n p + 1 ≤ cond c 1 0 + count_below n q
      there true e true f rest = omega (arith, rest)
      there true e false f rest = absurd (let yes : q n ≡ true = more n e in cc (yes, f))
      there false e true f rest = omega (arith, rest)
      there false e false f rest = omega (arith, rest)

      go : (i ≡ n) ⊎ (i ≢ n) → (i < n → p i ≡ false → q i ≡ true → count_below n p + 1 ≤ count_below n q) → cond (p n) 1 0 + count_below n p + 1 ≤ cond (q n) 1 0 + count_below n q
      go (inl same) rest = here (p n) refl (q n) refl (ap p (sym same) ∙ was) (ap q (sym same) ∙ is)
      go (inr apart) rest = there (p n) refl (q n) refl (rest (omega arith) was is)

-- ---- settled bits

-- all fix bit i to one value
unfoldable pub is_settled : List Encoding → ℕ → Bool
is_settled es i = list_all (fixes_to i 0) es || list_all (fixes_to i 1) es

unfoldable pub settled : List Encoding → ℕ
settled es = count_below 32 (is_settled es)

all_stay : (p q : Encoding → Bool) (es : List Encoding) → list_all p es ≡ true → list_all p (filter q es) ≡ true
all_stay p q [] all = refl
all_stay p q (e ∷ es) all = go (p e) refl (q e) (all_stay p q es) all
  where
    go : (b : Bool) → p e ≡ b → (c : Bool) → (list_all p es ≡ true → list_all p (filter q es) ≡ true) → (b && list_all p es) ≡ true → list_all p (cond c (e ∷ filter q es) (filter q es)) ≡ true
    go true is true rest all = ap (λ x. x && list_all p (filter q es)) is ∙ rest all
    go true is false rest all = rest all
    go false is c rest all = absurd cc

all_pass : (p : Encoding → Bool) (es : List Encoding) → list_all p (filter p es) ≡ true
all_pass p [] = refl
all_pass p (e ∷ es) = go (p e) refl (all_pass p es)
  where
    go : (b : Bool) → p e ≡ b → list_all p (filter p es) ≡ true → list_all p (cond b (e ∷ filter p es) (filter p es)) ≡ true
    go true is rest = ap (λ x. x && list_all p (filter p es)) is ∙ rest
    go false is rest = rest

not_all : (p q : Encoding → Bool) → ((e : Encoding) → q e ≡ true → p e ≡ false) → (es : List Encoding) → list_any q es ≡ true → list_all p es ≡ false
not_all p q out [] some = absurd cc
not_all p q out (e ∷ es) some = go (p e) refl (q e) refl (not_all p q out es) some
  where
    go : (b : Bool) → p e ≡ b → (c : Bool) → q e ≡ c → (list_any q es ≡ true → list_all p es ≡ false) → (c || list_any q es) ≡ true → (b && list_all p es) ≡ false
    go false is c also rest some = refl
    go true is true also rest some = absurd (let none : p e ≡ false = out e also in cc (none, is))
    go true is false also rest some = rest some

or_map : (x y x' y' : Bool) → (x ≡ true → x' ≡ true) → (y ≡ true → y' ≡ true) → (x || y) ≡ true → (x' || y') ≡ true
or_map true y x' y' f g e = ap (λ z. z || y') (f refl)
or_map false true true y' f g e = refl
or_map false true false y' f g e = g refl
or_map false false x' y' f g e = absurd cc

stays_settled : (i v : ℕ) (es : List Encoding) (j : ℕ) → is_settled es j ≡ true → is_settled (agreeing i v es) j ≡ true
unfolding is_settled agreeing
stays_settled i v es j is =
    or_map (list_all (fixes_to j 0) es) (list_all (fixes_to j 1) es) _ _ (all_stay (fixes_to j 0) (fixes_to i v) es) (all_stay (fixes_to j 1) (fixes_to i v) es) is

or_true : (x : Bool) → (x || true) ≡ true
or_true true = refl
or_true false = refl

becomes_settled : (i v : ℕ) (es : List Encoding) → (v ≡ 0) ⊎ (v ≡ 1) → is_settled (agreeing i v es) i ≡ true
unfolding is_settled agreeing
becomes_settled i v es (inl is) = ap (λ u. list_all (fixes_to i 0) (filter (fixes_to i u) es) || list_all (fixes_to i 1) (filter (fixes_to i u) es)) is ∙ ap (λ b. b || list_all (fixes_to i 1) (filter (fixes_to i 0) es)) (all_pass (fixes_to i 0) es)
becomes_settled i v es (inr is) = ap (λ u. list_all (fixes_to i 0) (filter (fixes_to i u) es) || list_all (fixes_to i 1) (filter (fixes_to i u) es)) is ∙ ap (λ b. list_all (fixes_to i 0) (filter (fixes_to i 1) es) || b) (all_pass (fixes_to i 1) es) ∙ or_true _

not_settled : (i : ℕ) (es : List Encoding) → Splits i es → is_settled es i ≡ false
unfolding is_settled
not_settled i es s =
    ap (λ b. b || list_all (fixes_to i 1) es) (not_all (fixes_to i 0) (fixes_to i 1) (λ e one. one_value i 1 0 e (λ same. absurd (cc same)) one) es s.one_too)
    ∙ not_all (fixes_to i 1) (fixes_to i 0) (λ e one. one_value i 0 1 e (λ same. absurd (cc same)) one) es s.zero_too

pub settled_most : (es : List Encoding) → settled es ≤ 32
unfolding settled
settled_most es = count_most 32 (is_settled es)

pub settled_grows : (i v : ℕ) (es : List Encoding) → next_bit es ≡ Some i → (v ≡ 0) ⊎ (v ≡ 1) → settled es + 1 ≤ settled (agreeing i v es)
unfolding settled
settled_grows i v es next bit =
    let h = next_bit_splits i es next in
    count_grows (is_settled es) (is_settled (agreeing i v es)) (stays_settled i v es) 32 i h.0 (not_settled i es h.1) (becomes_settled i v es bit)
