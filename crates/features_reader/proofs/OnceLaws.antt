-- Numbers that are kept one after the other, unless they are kept already, are those numbers, each once.
use Rattle.std.proofs.Common.{◌≡◌, ◌≢◌, ◌∙◌, refl, sym, ap, ℕ, zero, suc, ◌<◌, ◌==◌, List, [], ◌∷◌, ◌++◌, length, get_or, Bool, true, false, not, cond, ◌&&◌, ◌||◌, append_assoc, inl, inr, arith}
use Rattle.std.specs.Prelude.{filter}
use Rattle.std.specs.List.{list_any}
use Rattle.std.proofs.lemmas.Bool.{eqb-true, or_parts}
use Rattle.std.proofs.lemmas.Bool.Decides.{eqb_tells}
use Rattle.std.proofs.lemmas.List.Folds.{list_any-append}
use Rattle.spec_names.specs.Distinct.{distinct_by}
use Rattle.spec_names.proofs.FilterLaws.{filter-both}

abbrev pub is_kept : List ℕ → ℕ → Bool
is_kept kept n = list_any (λ k. k == n) kept

-- numbers that are kept, and behind them what is new of some, each once
abbrev pub behind : List ℕ → List ℕ → List ℕ
behind kept numbers = kept ++ filter (λ n. not (is_kept kept n)) (distinct_by ◌==◌ numbers)

eq-same : (a : ℕ) → (a == a) ≡ true
eq-same a = elim (eqb_tells a a) [ inl t ↦ t.0 | inr f ↦ absurd (f.1 refl) ]

eq-sym : (a b : ℕ) → (a == b) ≡ (b == a)
eq-sym a b = elim (eqb_tells a b) [
  | inl t ↦ (let e = t.1 in rw e refl)
  | inr f ↦ elim (eqb_tells b a) [ inl t ↦ absurd (f.1 (sym t.1)) | inr g ↦ f.0 ∙ sym g.0 ]
]

-- a number that is kept
kept_differs : (kept : List ℕ) (x : ℕ) → is_kept kept x ≡ true → (y : ℕ) → (not (is_kept kept y) && not (y == x)) ≡ not (is_kept kept y)
kept_differs kept x is y = go (y == x) refl
  where
    go : (b : Bool) → (y == x) ≡ b → (not (is_kept kept y) && not b) ≡ not (is_kept kept y)
    go true e = let there : is_kept kept y ≡ true = ap (is_kept kept) (eqb-true y x e) ∙ is in ap (λ b. not b && false) there ∙ sym (ap not there)
    go false e = and_true (not (is_kept kept y))
      where
        and_true : (b : Bool) → (b && true) ≡ b
        and_true true = refl
        and_true false = refl

pub behind-kept : (kept : List ℕ) (x : ℕ) (xs : List ℕ) → is_kept kept x ≡ true → behind kept (x ∷ xs) ≡ behind kept xs
behind-kept kept x xs is =
    let others = filter (λ y. not (y == x)) (distinct_by ◌==◌ xs) in
    ap (λ b. kept ++ cond (not b) (x ∷ filter (λ n. not (is_kept kept n)) others) (filter (λ n. not (is_kept kept n)) others)) is
    ∙ ap (λ ns. kept ++ ns) (filter-both (λ n. not (is_kept kept n)) (λ y. not (y == x)) (λ n. not (is_kept kept n)) (kept_differs kept x is) (distinct_by ◌==◌ xs))

-- and one that is not
new_differs : (kept : List ℕ) (x y : ℕ) → (not (is_kept kept y) && not (y == x)) ≡ not (is_kept (kept ++ x ∷ []) y)
new_differs kept x y = go (is_kept kept y) (y == x) ∙ sym (ap not (list_any-append (λ k. k == y) kept (x ∷ []) ∙ ap (λ b. is_kept kept y || (b || false)) (eq-sym x y)))
  where
    go : (a b : Bool) → (not a && not b) ≡ not (a || (b || false))
    go true b = refl
    go false true = refl
    go false false = refl

pub behind-new : (kept : List ℕ) (x : ℕ) (xs : List ℕ) → is_kept kept x ≡ false → behind kept (x ∷ xs) ≡ behind (kept ++ x ∷ []) xs
behind-new kept x xs is =
    let others = filter (λ y. not (y == x)) (distinct_by ◌==◌ xs) in
    ap (λ b. kept ++ cond (not b) (x ∷ filter (λ n. not (is_kept kept n)) others) (filter (λ n. not (is_kept kept n)) others)) is
    ∙ ap (λ ns. kept ++ x ∷ ns) (filter-both (λ n. not (is_kept kept n)) (λ y. not (y == x)) (λ n. not (is_kept (kept ++ x ∷ []) n)) (new_differs kept x) (distinct_by ◌==◌ xs))
    ∙ sym (append_assoc kept (x ∷ []) (filter (λ n. not (is_kept (kept ++ x ∷ []) n)) (distinct_by ◌==◌ xs)))

-- nothing is kept at first
pub behind-none : (xs : List ℕ) → behind [] xs ≡ distinct_by ◌==◌ xs
behind-none xs = all (distinct_by ◌==◌ xs)
  where
    all : (ns : List ℕ) → [] ++ filter (λ n. true) ns ≡ ns
    all [] = refl
    all (n ∷ ns) = ap (λ ms. n ∷ ms) (all ns)

-- a number that is not kept differs from each that is
pub differs_from_kept : (kept : List ℕ) (x : ℕ) → is_kept kept x ≡ false → (k d : ℕ) → k < length kept → get_or kept k d ≢ x
differs_from_kept [] x is k d within same = absurd (omega arith)
differs_from_kept (y ∷ kept) x is zero d within same = let here = (or_parts (y == x) (is_kept kept x) is).0 in let there = ap (λ n. n == x) same ∙ eq-same x in absurd cc
differs_from_kept (y ∷ kept) x is (suc k) d within same = differs_from_kept kept x (or_parts (y == x) (is_kept kept x) is).1 k d (omega arith) same
