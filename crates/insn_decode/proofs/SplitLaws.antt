-- The bit that is looked at next, from the highest down, and the leaves on either side of it.
use Rattle.std.proofs.Common.{◌≡◌, ◌∙◌, sym, ap, refl, ℕ, zero, suc, ◌+◌, ◌<◌, ◌≤◌, Bool, true, false, cond, ◌||◌, ◌==◌, List, [], ◌∷◌, length, map, Option, Some, None, arith, ◌⊎◌, inl, inr}
use Rattle.std.specs.Prelude.{IfSome, filter}
use Rattle.std.specs.List.{list_any}
use Rattle.std.proofs.lemmas.List.{length-map}
use Rattle.std.proofs.lemmas.Bool.Decides.{Decides-eqb}
use Rattle.spec_bits.specs.Pattern.{value_at}
use Rattle.spec_decode.specs.Bucket.{Encoding, is_value, fixes_to, splits, highest_split, next_bit, agreeing}
use Rattle.spec_decode.proofs.BucketLaws.{next_bit_splits}
use Rattle.insn_decode.specs.declared.member.Member.{Member}
use Rattle.insn_decode.specs.Members.{encoding_of}

-- ---- the highest bit

pub highest_here : (n i : ℕ) (es : List Encoding) → i ≡ suc n → splits n es ≡ true → highest_split i es ≡ Some n
unfolding highest_split
highest_here n i es is here = ap (λ k. highest_split k es) is ∙ ap (λ b. cond b (Some n) (highest_split n es)) here

pub highest_below : (n i : ℕ) (es : List Encoding) → i ≡ suc n → splits n es ≡ false → highest_split i es ≡ highest_split n es
unfolding highest_split
highest_below n i es is here = ap (λ k. highest_split k es) is ∙ ap (λ b. cond b (Some n) (highest_split n es)) here

pub highest_none : (i : ℕ) (es : List Encoding) → i ≡ 0 → highest_split i es ≡ None
unfolding highest_split
highest_none i es is = ap (λ k. highest_split k es) is

pub next_within : (o : Option ℕ) (es : List Encoding) → o ≡ next_bit es → IfSome o (λ i. i < 32)
next_within None es is = tt
next_within (Some i) es is = (next_bit_splits i es (sym is)).0

-- ---- one side has fewer leaves

no_longer : (p : Encoding → Bool) (es : List Encoding) → length (filter p es) ≤ length es
no_longer p [] = omega arith
no_longer p (e ∷ es) = go (p e) (no_longer p es)
  where
    go : (b : Bool) → length (filter p es) ≤ length es → length (cond b (e ∷ filter p es) (filter p es)) ≤ length (e ∷ es)
    go true rest = omega (arith, rest)
    go false rest = omega (arith, rest)

-- where some leaf passes a test by which it is left out
shorter : (p q : Encoding → Bool) → ((e : Encoding) → q e ≡ true → p e ≡ false) → (es : List Encoding) → list_any q es ≡ true → length (filter p es) < length es
shorter p q out [] some = absurd cc
shorter p q out (e ∷ es) some = go (p e) refl (q e) refl (shorter p q out es) some
  where
    go : (b : Bool) → p e ≡ b → (c : Bool) → q e ≡ c → (list_any q es ≡ true → length (filter p es) < length es) → (c || list_any q es) ≡ true
        → length (cond b (e ∷ filter p es) (filter p es)) < length (e ∷ es)
    go false is c also rest some = omega (arith, no_longer p es)
    go true is true also rest some = absurd (let none : p e ≡ false = out e also in cc (none, is))
    go true is false also rest some = omega (arith, rest some)

-- no bit is fixed to two values
pub one_value : (i u v : ℕ) (e : Encoding) → (u ≡ v → ⊥) → fixes_to i u e ≡ true → fixes_to i v e ≡ false
unfolding fixes_to
one_value i u v e apart is = go (value_at e.digits i) is
  where
    go : (o : Option ℕ) → is_value u o ≡ true → is_value v o ≡ false
    go None is = refl
    go (Some x) is = other (x == v) refl
      where
        other : (b : Bool) → (x == v) ≡ b → b ≡ false
        other true same = absurd (apart (sym ((Decides-eqb x u).0 is) ∙ (Decides-eqb x v).0 same))
        other false same = refl

pub fewer : (i v : ℕ) (es : List Encoding) → next_bit es ≡ Some i → v ≤ 1 → length (agreeing i v es) < length es
unfolding agreeing
fewer i v es next small = go (cases v small)
  where
    cases : (n : ℕ) → n ≤ 1 → (n ≡ 0) ⊎ (n ≡ 1)
    cases zero le = inl refl
    cases (suc n) le = inr (omega arith)

    go : (v ≡ 0) ⊎ (v ≡ 1) → length (filter (fixes_to i v) es) < length es
    go (inl is) =
        shorter (fixes_to i v) (fixes_to i 1) (λ e one. one_value i 1 v e (λ same. let no : 1 ≡ 0 = same ∙ is in absurd (cc no)) one) es (next_bit_splits i es next).1.one_too
    go (inr is) =
        shorter (fixes_to i v) (fixes_to i 0) (λ e one. one_value i 0 v e (λ same. let no : 0 ≡ 1 = same ∙ is in absurd (cc no)) one) es (next_bit_splits i es next).1.zero_too

-- ---- the two sides have no more leaves than there are, and each has one

passes_one : (p : Encoding → Bool) (es : List Encoding) → list_any p es ≡ true → 1 ≤ length (filter p es)
passes_one p [] some = absurd cc
passes_one p (e ∷ es) some = go (p e) (passes_one p es) some
  where
    go : (b : Bool) → (list_any p es ≡ true → 1 ≤ length (filter p es)) → (b || list_any p es) ≡ true → 1 ≤ length (cond b (e ∷ filter p es) (filter p es))
    go true rest some = omega arith
    go false rest some = rest some

shared_out : (p q : Encoding → Bool) → ((e : Encoding) → p e ≡ true → q e ≡ false) → (es : List Encoding) → length (filter p es) + length (filter q es) ≤ length es
shared_out p q out [] = omega arith
shared_out p q out (e ∷ es) = go (p e) refl (q e) refl (shared_out p q out es)
  where
    go : (b : Bool) → p e ≡ b → (c : Bool) → q e ≡ c → length (filter p es) + length (filter q es) ≤ length es
        → length (cond b (e ∷ filter p es) (filter p es)) + length (cond c (e ∷ filter q es) (filter q es)) ≤ length (e ∷ es)
    go true is true also rest = absurd (let none : q e ≡ false = out e is in cc (none, also))
    go true is false also rest = omega (arith, rest)
    go false is true also rest = omega (arith, rest)
    go false is false also rest = omega (arith, rest)

pub record AreSides (zeros ones all : ℕ) : Type 0 where
  pub zero_too : 1 ≤ zeros
  pub one_too : 1 ≤ ones
  pub together : zeros + ones ≤ all

sides : (i : ℕ) (es : List Encoding) → next_bit es ≡ Some i → AreSides (length (agreeing i 0 es)) (length (agreeing i 1 es)) (length es)
unfolding agreeing
sides i es next =
    let h = (next_bit_splits i es next).1 in
    record {
      zero_too = passes_one (fixes_to i 0) es h.zero_too;
      one_too = passes_one (fixes_to i 1) es h.one_too;
      together = shared_out (fixes_to i 0) (fixes_to i 1) (λ e is. one_value i 0 1 e (λ same. absurd (cc same)) is) es;
    }

pub sides_of : (i : ℕ) (members zeros ones : List Member) → next_bit (map encoding_of members) ≡ Some i → map encoding_of zeros ≡ agreeing i 0 (map encoding_of members) → map encoding_of ones ≡ agreeing i 1 (map encoding_of members)
    → AreSides (length zeros) (length ones) (length members)
sides_of i members zeros ones next low high =
    let h = sides i (map encoding_of members) next in
    let lows : length (map encoding_of zeros) ≡ length (agreeing i 0 (map encoding_of members)) = ap (λ (es : List Encoding). length es) low in
    let highs : length (map encoding_of ones) ≡ length (agreeing i 1 (map encoding_of members)) = ap (λ (es : List Encoding). length es) high in
    record {
      zero_too = omega (arith, h.zero_too, lows, length-map zeros encoding_of);
      one_too = omega (arith, h.one_too, highs, length-map ones encoding_of);
      together = omega (arith, h.together, lows, highs, length-map zeros encoding_of, length-map ones encoding_of, length-map members encoding_of);
    }

pub side_fewer : (i v : ℕ) (members some : List Member) → next_bit (map encoding_of members) ≡ Some i → v ≤ 1 → map encoding_of some ≡ agreeing i v (map encoding_of members) → length some < length members
side_fewer i v members some next small is =
    let fewer_here = fewer i v (map encoding_of members) next small in
    let same : length (map encoding_of some) ≡ length (agreeing i v (map encoding_of members)) = ap (λ (es : List Encoding). length es) is in
    omega (arith, fewer_here, same, length-map members encoding_of, length-map some encoding_of)
