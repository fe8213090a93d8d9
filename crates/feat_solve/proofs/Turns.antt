-- The trail after a step has joined the clauses and the last decision is taken back.
use Rattle.std.proofs.Common.{◌≡◌, ℕ, zero, suc, ◌<◌, ◌≤◌, ℤ, pos, negsuc, neg_ℤ, nat_abs, true, false, List, [], ◌∷◌, ◌++◌, length, Option, Some, None, refl, ap, subst, ◌∙◌, ⊎_elim, arith}
use Rattle.std.specs.Prelude.{slice_get}
use Rattle.std.specs.Option.{option_and_then}
use Rattle.std.proofs.lemmas.Bool.{both_ways}
use Rattle.spec_refutation.specs.Derivation.{has, open_literals, the_only, clause_numbered, the_open}
use Rattle.spec_refutation.specs.Reading.{IsLiteral}
use Rattle.feat_solve.specs.Trail.{Entry, literals, valued, decisions, below, last_decided, Why, Stands, IsTrail}
use Rattle.feat_solve.proofs.Trails.{is_false, nat_abs-neg, valued_has}

slice_get-append_left : {X : Type 0} (xs ys : List X) (k : ℕ) (x : X) → slice_get xs k ≡ Some x
    → slice_get (xs ++ ys) k ≡ Some x
slice_get-append_left [] ys k x e = absurd cc
slice_get-append_left (z ∷ xs) ys zero x e = e
slice_get-append_left (z ∷ xs) ys (suc k) x e = slice_get-append_left xs ys k x e

pub slice_get-seam : {X : Type 0} (xs : List X) (x : X) → slice_get (xs ++ (x ∷ [])) (length xs) ≡ Some x
slice_get-seam [] x = refl
slice_get-seam (z ∷ xs) x = slice_get-seam xs x

-- a number stays that of its clause as clauses join
pub numbered_more : (known more : List (List ℤ)) (h : ℕ) (c : List ℤ) → clause_numbered known h ≡ Some c
    → clause_numbered (known ++ more) h ≡ Some c
numbered_more known more zero c e = absurd cc
numbered_more known more (suc k) c e = slice_get-append_left known more k c e

opens_more : (known more : List (List ℤ)) (S : List ℤ) (h : ℕ) (l : ℤ) → the_open known S h ≡ Some l
    → the_open (known ++ more) S h ≡ Some l
opens_more known more S h l e = go (clause_numbered known h) refl e
  where
    go : (o : Option (List ℤ)) → clause_numbered known h ≡ o → option_and_then (λ c. the_only (open_literals S c)) o ≡ Some l
        → the_open (known ++ more) S h ≡ Some l
    go None is e = absurd cc
    go (Some c) is e = ap (λ o. option_and_then (λ c. the_only (open_literals S c)) o) (numbered_more known more h c is) ∙ e

why_more : (known more : List (List ℤ)) (es : List Entry) (l : ℤ) (r : Option ℕ) → Why known es l r
    → Why (known ++ more) es l r
why_more known more es l None w = w
why_more known more es l (Some h) w = opens_more known more (literals es) h l w

pub trail_more : (vars : ℕ) (known more : List (List ℤ)) (es : List Entry) → IsTrail vars known es
    → IsTrail vars (known ++ more) es
trail_more vars known more [] t = tt
trail_more vars known more (e ∷ es) t =
    (record { within = t.0.within; free = t.0.free; why = why_more known more es e.0 e.1 t.0.why }, trail_more vars known more es t.1)

pub trail_below : (vars : ℕ) (known : List (List ℤ)) (es : List Entry) → IsTrail vars known es
    → IsTrail vars known (below es)
trail_below vars known [] t = tt
trail_below vars known ((l, None) ∷ es) t = t.1
trail_below vars known ((l, Some h) ∷ es) t = trail_below vars known es t.1

-- the last decision stood on what is below it
pub last_stands : (vars : ℕ) (known : List (List ℤ)) (es : List Entry) (d : ℤ) → IsTrail vars known es
    → last_decided es ≡ Some d → Stands vars known (below es) (d, None)
last_stands vars known [] d t e = absurd cc
last_stands vars known ((l, None) ∷ es) d t e =
    let q : l ≡ d = cc in
    let P : ℤ → Type 0 = λ z. Stands vars known es (z, None) in
    subst P q t.0
last_stands vars known ((l, Some h) ∷ es) d t e = last_stands vars known es d t.1 e

pub decisions_are : (es : List Entry) (d : ℤ) → last_decided es ≡ Some d → decisions es ≡ d ∷ decisions (below es)
decisions_are [] d e = absurd cc
decisions_are ((l, None) ∷ es) d e = let q : l ≡ d = cc in ap (λ z. z ∷ decisions es) q
decisions_are ((l, Some h) ∷ es) d e = decisions_are es d e

pub no_decisions : (es : List Entry) → last_decided es ≡ None → decisions es ≡ []
no_decisions [] e = refl
no_decisions ((l, None) ∷ es) e = absurd cc
no_decisions ((l, Some h) ∷ es) e = no_decisions es e

pub IsLiteral-neg : (vars : ℕ) (l : ℤ) → IsLiteral vars l → IsLiteral vars (neg_ℤ l)
IsLiteral-neg vars l i = record { some = omega (arith, nat_abs-neg l, i.some); within = omega (arith, nat_abs-neg l, i.within) }

-- a decision and a forced literal may join
pub trail_decided : (vars : ℕ) (known : List (List ℤ)) (es : List Entry) (x : ℕ) → IsTrail vars known es
    → 0 < x → x ≤ vars → valued es x ≡ false → ((y : ℕ) → 0 < y → y < x → valued es y ≡ true)
    → IsTrail vars known ((pos x, None) ∷ es)
trail_decided vars known es x t some within free least =
    (record { within = record { some = some; within = within }; free = free; why = record { positive = refl; least = least } }, t)

pub trail_forced : (vars : ℕ) (known : List (List ℤ)) (es : List Entry) (l : ℤ) (h : ℕ) → IsTrail vars known es
    → IsLiteral vars l → the_open known (literals es) h ≡ Some l → has (literals es) l ≡ false
    → has (literals es) (neg_ℤ l) ≡ false → IsTrail vars known ((l, Some h) ∷ es)
trail_forced vars known es l h t within one out neg_out =
    (record { within = within; free = free_of es l out neg_out; why = one }, t)
  where
    by_sign : (es : List Entry) (l : ℤ) → has (literals es) l ≡ false → has (literals es) (neg_ℤ l) ≡ false
        → (has (literals es) (pos (nat_abs l)) ≡ false) × (has (literals es) (neg_ℤ (pos (nat_abs l))) ≡ false)
    by_sign es (pos n) a b = (a, b)
    by_sign es (negsuc n) a b = (b, a)

    free_of : (es : List Entry) (l : ℤ) → has (literals es) l ≡ false → has (literals es) (neg_ℤ l) ≡ false
        → valued es (nat_abs l) ≡ false
    free_of es l a b = is_false (valued es (nat_abs l)) (λ v.
        let s = by_sign es l a b in
        ⊎_elim (λ p. both_ways (has (literals es) (pos (nat_abs l))) s.0 p)
        (λ p. both_ways (has (literals es) (neg_ℤ (pos (nat_abs l)))) s.1 p) (valued_has es (nat_abs l) v))
