-- What holds of a trail, and that a step of a conflict follows.
use Rattle.std.proofs.Common.{◌≡◌, ◌==◌, ℕ, zero, suc, ◌<◌, ℤ, pos, negsuc, neg_ℤ, nat_abs, Bool, true, false, ◌&&◌, ◌⊎◌, inl, inr, List, [], ◌∷◌, ◌++◌, map, reverse, Some, None, refl, sym, ap, ◌∙◌, ⊎_elim, arith}
use Rattle.std.specs.List.{list_all}
use Rattle.std.specs.Ordering.{int_eq}
use Rattle.std.proofs.lemmas.Bool.{false≢true, both_ways, or_cases, or_from, or_left, or_right}
use Rattle.std.proofs.lemmas.Bool.Decides.{Decides-int_eq, Decides-eqb}
use Rattle.std.proofs.lemmas.Option.{cond_some}
use Rattle.std.proofs.lemmas.List.{reverse-append}
use Rattle.spec_refutation.specs.Derivation.{has, the_only}
use Rattle.spec_refutation.proofs.Sound.{neg-neg}
use Rattle.feat_solve.specs.Trail.{Entry, literals, valued, decisions, IsTrail}

pub is_false : (b : Bool) → (b ≡ true → ⊥) → b ≡ false
is_false true h = absurd (h refl)
is_false false h = refl

pub nat_abs-neg : (l : ℤ) → nat_abs (neg_ℤ l) ≡ nat_abs l
nat_abs-neg (pos zero) = refl
nat_abs-neg (pos (suc n)) = refl
nat_abs-neg (negsuc n) = refl

pub neg_other : (l : ℤ) → 0 < nat_abs l → neg_ℤ l ≡ l → ⊥
neg_other (pos zero) p e = absurd (omega (arith, p))
neg_other (pos (suc n)) p e = absurd cc
neg_other (negsuc n) p e = absurd cc

pub has_valued : (es : List Entry) (m : ℤ) → has (literals es) m ≡ true → valued es (nat_abs m) ≡ true
has_valued [] m h = absurd (false≢true h)
has_valued (e ∷ es) m h = ⊎_elim
    (λ q. or_left (nat_abs e.0 == nat_abs m) (valued es (nat_abs m)) ((Decides-eqb (nat_abs e.0) (nat_abs m)).1 (ap nat_abs (sym ((Decides-int_eq m e.0).0 q)))))
    (λ q. or_right (nat_abs e.0 == nat_abs m) (valued es (nat_abs m)) (has_valued es m q))
    (or_cases (int_eq m e.0) (has (literals es) m) h)

pub unvalued_not : (es : List Entry) (m : ℤ) → valued es (nat_abs m) ≡ false → has (literals es) m ≡ false
unvalued_not es m f = is_false (has (literals es) m) (λ h. both_ways (valued es (nat_abs m)) f (has_valued es m h))

-- a variable with a value has its literal or the negation
by_size : (l : ℤ) (x : ℕ) → nat_abs l ≡ x → (pos x ≡ l) ⊎ (neg_ℤ (pos x) ≡ l)
by_size (pos n) x e = inl (ap pos (sym e))
by_size (negsuc n) x e = inr (ap (λ k. neg_ℤ (pos k)) (sym e))

pub valued_has : (es : List Entry) (x : ℕ) → valued es x ≡ true
    → (has (literals es) (pos x) ≡ true) ⊎ (has (literals es) (neg_ℤ (pos x)) ≡ true)
valued_has [] x h = absurd (false≢true h)
valued_has (e ∷ es) x h = ⊎_elim
    (λ q. ⊎_elim (λ s. inl (or_left (int_eq (pos x) e.0) (has (literals es) (pos x)) ((Decides-int_eq (pos x) e.0).1 s)))
    (λ s. inr (or_left (int_eq (neg_ℤ (pos x)) e.0) (has (literals es) (neg_ℤ (pos x))) ((Decides-int_eq (neg_ℤ (pos x)) e.0).1 s)))
    (by_size e.0 x ((Decides-eqb (nat_abs e.0) x).0 q)))
    (λ q. ⊎_elim (λ s. inl (or_right (int_eq (pos x) e.0) (has (literals es) (pos x)) s))
    (λ s. inr (or_right (int_eq (neg_ℤ (pos x)) e.0) (has (literals es) (neg_ℤ (pos x))) s))
    (valued_has es x q))
    (or_cases (nat_abs e.0 == x) (valued es x) h)

-- no literal of a trail has its negation there
pub consistent : (vars : ℕ) (known : List (List ℤ)) (es : List Entry) → IsTrail vars known es → (l : ℤ)
    → has (literals es) l ≡ true → has (literals es) (neg_ℤ l) ≡ false
consistent vars known [] t l h = refl
consistent vars known (e ∷ es) t l h = or_from (int_eq (neg_ℤ l) e.0) (has (literals es) (neg_ℤ l))
    (is_false (int_eq (neg_ℤ l) e.0) (λ q.
    let s : neg_ℤ l ≡ e.0 = (Decides-int_eq (neg_ℤ l) e.0).0 q in
    ⊎_elim (λ p. let r : l ≡ e.0 = (Decides-int_eq l e.0).0 p in neg_other e.0 t.0.within.some (ap neg_ℤ (sym r) ∙ s))
    (λ p. both_ways (valued es (nat_abs e.0)) t.0.free (ap (valued es) (ap nat_abs (sym s) ∙ nat_abs-neg l) ∙ has_valued es l p))
    (or_cases (int_eq l e.0) (has (literals es) l) h)))
    (⊎_elim
    (λ p. let r : l ≡ e.0 = (Decides-int_eq l e.0).0 p in unvalued_not es (neg_ℤ l) (ap (valued es) (nat_abs-neg l ∙ ap nat_abs r) ∙ t.0.free))
    (λ p. consistent vars known es t.1 l p)
    (or_cases (int_eq l e.0) (has (literals es) l) h))

pub all_only : (ls : List ℤ) (l : ℤ) → the_only ls ≡ Some l → list_all (int_eq l) ls ≡ true
all_only [] l e = absurd cc
all_only (k ∷ ks) l e =
    let p = cond_some (list_all (int_eq k) ks) k l e in
    ap (λ z. int_eq z k && list_all (int_eq z) ks) (sym p.1) ∙ both (int_eq k k) (list_all (int_eq k) ks) ((Decides-int_eq k k).1 refl) p.0
  where
    both : (a b : Bool) → a ≡ true → b ≡ true → (a && b) ≡ true
    both true b e f = f
    both false b e f = e

pub reverse_cons : {A : Type 0} → (x : A) (xs : List A) → reverse (x ∷ xs) ≡ reverse xs ++ (x ∷ [])
reverse_cons x xs = reverse-append (x ∷ []) xs

pub decided_in : (es : List Entry) (x : ℤ) → has (decisions es) x ≡ true → has (literals es) x ≡ true
decided_in [] x h = h
decided_in ((l, None) ∷ es) x h = ⊎_elim (λ q. or_left (int_eq x l) (has (literals es) x) q)
    (λ q. or_right (int_eq x l) (has (literals es) x) (decided_in es x q)) (or_cases (int_eq x l) (has (decisions es) x) h)
decided_in ((l, Some r) ∷ es) x h = or_right (int_eq x l) (has (literals es) x) (decided_in es x h)

pub negs_negs : (ls : List ℤ) → map neg_ℤ (map neg_ℤ ls) ≡ ls
negs_negs [] = refl
negs_negs (l ∷ ls) = ap (λ m. m ∷ map neg_ℤ (map neg_ℤ ls)) (neg-neg l) ∙ ap (λ t. l ∷ t) (negs_negs ls)
