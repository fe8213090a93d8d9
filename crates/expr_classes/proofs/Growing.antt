-- Terms stay what they are while keys grow.
use Rattle.std.proofs.Common.{◌≡◌, ℕ, zero, suc, ◌+◌, List, [], ◌∷◌, ◌++◌, length, Some, slice_get, refl, sym, ap, ◌∙◌, subst, inl, inr, arith, append-nil, append_assoc}
use Rattle.std.proofs.lemmas.Option.{slice_get_within}
use Rattle.std.proofs.lemmas.List.{length-append}
use Rattle.mrs_names.proofs.ListLaws.{slice_get-append, slice_get-append_end}
use Rattle.expr_classes.specs.declared.key.Key.{Key}
use Rattle.expr_classes.specs.declared.key.Key.TheVariants as key
use Rattle.expr_classes.specs.Terms.{Term, term_of, terms_behind, IsExpr, IsExprs, HasTerms, HaveTerms}

-- a term keeps its number
pub stays : (terms more : List Term) (p : ℕ) (x : Term) → slice_get terms p ≡ Some x → slice_get (terms ++ more) p ≡ Some x
stays terms more p x e = slice_get-append terms more p (slice_get_within terms p x e) ∙ e

pub expr_stays : (terms more : List Term) (p : ℕ) → IsExpr terms p → IsExpr (terms ++ more) p
expr_stays terms more p (e, at) = (e, stays terms more p (inl e) at)

list_stays : (terms more : List Term) (p : ℕ) → IsExprs terms p → IsExprs (terms ++ more) p
list_stays terms more p (es, at) = (es, stays terms more p (inr es) at)

pub parts_stay : (terms more : List Term) (k : Key) → HasTerms terms k → HasTerms (terms ++ more) k
parts_stay terms more (key.Truth b) h = tt
parts_stay terms more (key.Integer z) h = tt
parts_stay terms more (key.Bits w m v) h = h
parts_stay terms more (key.Name n) h = tt
parts_stay terms more (key.Not a) h = expr_stays terms more a h
parts_stay terms more (key.Binary o a b) h = (expr_stays terms more a h.0, expr_stays terms more b h.1)
parts_stay terms more (key.Call f a) h = list_stays terms more a h
parts_stay terms more (key.Set a) h = list_stays terms more a h
parts_stay terms more (key.Join a) h = list_stays terms more a h
parts_stay terms more (key.Slice a b c) h = (expr_stays terms more a h.0, (expr_stays terms more b h.1.0, expr_stays terms more c h.1.1))
parts_stay terms more key.Empty h = tt
parts_stay terms more (key.Chain a b) h = (expr_stays terms more a h.0, list_stays terms more b h.1)

expr_kept : (terms more : List Term) (p : ℕ) → IsExpr terms p → slice_get (terms ++ more) p ≡ slice_get terms p
expr_kept terms more p (e, at) = stays terms more p (inl e) at ∙ sym at

list_kept : (terms more : List Term) (p : ℕ) → IsExprs terms p → slice_get (terms ++ more) p ≡ slice_get terms p
list_kept terms more p (es, at) = stays terms more p (inr es) at ∙ sym at

-- a key stands for the same term
pub term_stays : (terms more : List Term) (k : Key) → HasTerms terms k → term_of (terms ++ more) k ≡ term_of terms k
term_stays terms more (key.Truth b) h = refl
term_stays terms more (key.Integer z) h = refl
term_stays terms more (key.Bits w m v) h = refl
term_stays terms more (key.Name n) h = refl
term_stays terms more (key.Not a) h = rw (expr_kept terms more a h) refl
term_stays terms more (key.Binary o a b) h = rw (expr_kept terms more a h.0, expr_kept terms more b h.1) refl
term_stays terms more (key.Call f a) h = rw (list_kept terms more a h) refl
term_stays terms more (key.Set a) h = rw (list_kept terms more a h) refl
term_stays terms more (key.Join a) h = rw (list_kept terms more a h) refl
term_stays terms more (key.Slice a b c) h = rw (expr_kept terms more a h.0, expr_kept terms more b h.1.0, expr_kept terms more c h.1.1) refl
term_stays terms more key.Empty h = refl
term_stays terms more (key.Chain a b) h = rw (expr_kept terms more a h.0, list_kept terms more b h.1) refl

-- ---- keys one behind the other

-- terms only join
pub terms_grow : (terms : List Term) (ks : List Key) → (more : List Term) × (terms_behind terms ks ≡ terms ++ more)
terms_grow terms [] = ([], sym (append-nil terms))
terms_grow terms (k ∷ ks) =
    let rest = terms_grow (terms ++ term_of terms k ∷ []) ks in
    (term_of terms k ∷ rest.0, rest.1 ∙ append_assoc terms (term_of terms k ∷ []) rest.0)

pub terms_last : (terms : List Term) (ks : List Key) (k : Key) → terms_behind terms (ks ++ k ∷ []) ≡ terms_behind terms ks ++ term_of (terms_behind terms ks) k ∷ []
terms_last terms [] k = refl
terms_last terms (l ∷ ks) k = terms_last (terms ++ term_of terms l ∷ []) ks k

pub parts_last : (terms : List Term) (ks : List Key) (k : Key) → HaveTerms terms ks → HasTerms (terms_behind terms ks) k → HaveTerms terms (ks ++ k ∷ [])
parts_last terms [] k a h = (h, tt)
parts_last terms (l ∷ ks) k a h = (a.0, parts_last (terms ++ term_of terms l ∷ []) ks k a.1 h)

pub terms_length : (terms : List Term) (ks : List Key) → length (terms_behind terms ks) ≡ length terms + length ks
terms_length terms [] = omega arith
terms_length terms (k ∷ ks) = omega (arith, terms_length (terms ++ term_of terms k ∷ []) ks, length-append terms (term_of terms k ∷ []))

-- of a key what it stands for among all terms, at its number
pub record StandsAt (terms all : List Term) (j : ℕ) (k : Key) : Type 0 where
  pub term : slice_get all (length terms + j) ≡ Some (term_of all k)
  pub parts : HasTerms all k

pub key_at : (terms : List Term) (ks : List Key) → HaveTerms terms ks → (j : ℕ) (k : Key) → slice_get ks j ≡ Some k → StandsAt terms (terms_behind terms ks) j k
key_at terms [] a j k e = absurd cc
key_at terms (l ∷ ks) a zero k e =
    let same : l ≡ k = cc in
    let grown = terms_grow (terms ++ term_of terms l ∷ []) ks in
    let P : List Term → Type 0 = λ all. StandsAt terms all zero l in
    let Q : Key → Type 0 = λ m. StandsAt terms (terms_behind terms (l ∷ ks)) zero m in
    let whole : terms_behind terms (l ∷ ks) ≡ terms ++ (term_of terms l ∷ grown.0) = grown.1 ∙ append_assoc terms (term_of terms l ∷ []) grown.0 in
    subst Q same (subst P (sym whole) (record {
      term = ap (slice_get (terms ++ (term_of terms l ∷ grown.0))) (add_zero (length terms)) ∙ slice_get-append_end terms (term_of terms l) grown.0
          ∙ ap Some (sym (term_stays terms (term_of terms l ∷ grown.0) l a.0));
      parts = parts_stay terms (term_of terms l ∷ grown.0) l a.0;
    }))
  where
    add_zero : (n : ℕ) → n + zero ≡ n
    add_zero n = omega arith
key_at terms (l ∷ ks) a (suc j) k e =
    let rest = key_at (terms ++ term_of terms l ∷ []) ks a.1 j k e in
    let P : ℕ → Type 0 = λ n. slice_get (terms_behind terms (l ∷ ks)) n ≡ Some (term_of (terms_behind terms (l ∷ ks)) k) in
    let count : length (terms ++ term_of terms l ∷ []) + j ≡ length terms + suc j = omega (arith, length-append terms (term_of terms l ∷ [])) in
    record { term = subst P count rest.term; parts = rest.parts }
