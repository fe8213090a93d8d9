-- What a conflict teaches follows.
use Rattle.std.proofs.Common.{◌≡◌, ℕ, ℤ, neg_ℤ, Bool, true, false, cond, not, ◌||◌, ◌&&◌, ◌⊎◌, inl, inr, List, [], ◌∷◌, ◌++◌, map, reverse, Option, Some, None, refl, sym, ap, ◌∙◌, ⊎_elim, append_assoc}
use Rattle.std.specs.List.{list_all}
use Rattle.std.specs.Option.{option_map_or, option_and_then}
use Rattle.std.specs.Ordering.{int_eq}
use Rattle.std.proofs.lemmas.Bool.{false≢true, both_ways, and_parts, or_cases, or_parts, or_from, or_left, or_right}
use Rattle.std.proofs.lemmas.Bool.Decides.{Decides-int_eq}
use Rattle.std.proofs.lemmas.List.Folds.{list_any-append}
use Rattle.spec_refutation.specs.Derivation.{has, open_literals, the_only, falsified, clause_numbered, the_open, leads, derives}
use Rattle.feat_solve.specs.Trail.{Entry, literals, valued, IsTrail, Conflicts}
use Rattle.feat_solve.specs.Learnt.{causes, is_cut, cuts_below, grounds, chain, learnt}
use Rattle.feat_solve.proofs.Trails.{is_false, all_only, nat_abs-neg, unvalued_not, consistent, reverse_cons, negs_negs}

-- as open_same, where only the clause's own negations are compared
open_near : (S T : List ℤ) (l : ℤ) → has T (neg_ℤ l) ≡ false → (c : List ℤ)
    → ((x : ℤ) → has (map neg_ℤ c) x ≡ true → has S x ≡ true → has T x ≡ true)
    → list_all (int_eq l) (open_literals S c) ≡ true → open_literals T c ≡ open_literals S c
open_near S T l clear [] more e = refl
open_near S T l clear (m ∷ c) more e = go (has S (neg_ℤ m)) refl e (open_near S T l clear c (λ x k. more x (or_right (int_eq x (neg_ℤ m)) (has (map neg_ℤ c) x) k)))
  where
    go : (b : Bool) → has S (neg_ℤ m) ≡ b
        → list_all (int_eq l) (cond (not b) (m ∷ open_literals S c) (open_literals S c)) ≡ true
        → (list_all (int_eq l) (open_literals S c) ≡ true → open_literals T c ≡ open_literals S c)
        → cond (not (has T (neg_ℤ m))) (m ∷ open_literals T c) (open_literals T c) ≡ cond (not b) (m ∷ open_literals S c) (open_literals S c)
    go true h e ih = ap (λ b. cond (not b) (m ∷ open_literals T c) (open_literals T c)) (more (neg_ℤ m) (or_left (int_eq (neg_ℤ m) (neg_ℤ m)) (has (map neg_ℤ c) (neg_ℤ m)) ((Decides-int_eq (neg_ℤ m) (neg_ℤ m)).1 refl)) h) ∙ ih e
    go false h e ih =
        let p = and_parts (int_eq l m) (list_all (int_eq l) (open_literals S c)) e in
        let same : l ≡ m = (Decides-int_eq l m).0 p.0 in
        ap (λ b. cond (not b) (m ∷ open_literals T c) (open_literals T c)) (ap (λ z. has T (neg_ℤ z)) (sym same) ∙ clear) ∙ ap (λ t. m ∷ t) (ih p.1)

opens_near : (known : List (List ℤ)) (S T : List ℤ) (h : ℕ) (l : ℤ) → has T (neg_ℤ l) ≡ false
    → ((x : ℤ) → has (causes known h) x ≡ true → has S x ≡ true → has T x ≡ true)
    → the_open known S h ≡ Some l → the_open known T h ≡ Some l
opens_near known S T h l clear more e = go (clause_numbered known h) more e
  where
    go : (o : Option (List ℤ)) → ((x : ℤ) → has (option_map_or (map neg_ℤ) o []) x ≡ true → has S x ≡ true → has T x ≡ true)
        → option_and_then (λ c. the_only (open_literals S c)) o ≡ Some l
        → option_and_then (λ c. the_only (open_literals T c)) o ≡ Some l
    go None more e = e
    go (Some c) more e = ap the_only (open_near S T l clear c more (all_only (open_literals S c) l e)) ∙ e

-- the set that the hints lead to
abbrev reached : List (List ℤ) → List Bool → List ℤ → List ℤ → List Entry → List ℤ
reached known cs D N [] = D
reached known cs D N ((l, None) ∷ es) = reached known (cuts_below cs) D N es
reached known cs D N ((l, Some h) ∷ es) = cond (has N l)
    (cond (is_cut cs) (reached known (cuts_below cs) D N es) (l ∷ reached known (cuts_below cs) D (N ++ causes known h) es))
    (reached known (cuts_below cs) D N es)

in_reached : (known : List (List ℤ)) (cs : List Bool) (D N : List ℤ) (es : List Entry) (x : ℤ) → has D x ≡ true
    → has (reached known cs D N es) x ≡ true
in_reached known cs D N [] x h = h
in_reached known cs D N ((l, None) ∷ es) x h = in_reached known (cuts_below cs) D N es x h
in_reached known cs D N ((l, Some r) ∷ es) x h =
    go (has N l) (is_cut cs) (in_reached known (cuts_below cs) D (N ++ causes known r) es x h) (in_reached known (cuts_below cs) D N es x h)
  where
    go : (b c : Bool) → has (reached known (cuts_below cs) D (N ++ causes known r) es) x ≡ true → has (reached known (cuts_below cs) D N es) x ≡ true
        → has (cond b (cond c (reached known (cuts_below cs) D N es) (l ∷ reached known (cuts_below cs) D (N ++ causes known r) es)) (reached known (cuts_below cs) D N es)) x ≡ true
    go true true p q = q
    go true false p q = or_right (int_eq x l) (has (reached known (cuts_below cs) D (N ++ causes known r) es) x) p
    go false c p q = q

not_reached : (known : List (List ℤ)) (cs : List Bool) (D N : List ℤ) (es : List Entry) (x : ℤ) → has D x ≡ false
    → has (literals es) x ≡ false → has (reached known cs D N es) x ≡ false
not_reached known cs D N [] x a b = a
not_reached known cs D N ((l, None) ∷ es) x a b = not_reached known (cuts_below cs) D N es x a (or_parts (int_eq x l) (has (literals es) x) b).1
not_reached known cs D N ((l, Some r) ∷ es) x a b =
    let p = or_parts (int_eq x l) (has (literals es) x) b in
    go (has N l) (is_cut cs) p.0 (not_reached known (cuts_below cs) D (N ++ causes known r) es x a p.1) (not_reached known (cuts_below cs) D N es x a p.1)
  where
    go : (b c : Bool) → int_eq x l ≡ false → has (reached known (cuts_below cs) D (N ++ causes known r) es) x ≡ false → has (reached known (cuts_below cs) D N es) x ≡ false
        → has (cond b (cond c (reached known (cuts_below cs) D N es) (l ∷ reached known (cuts_below cs) D (N ++ causes known r) es)) (reached known (cuts_below cs) D N es)) x ≡ false
    go true true e p q = q
    go true false e p q = or_from (int_eq x l) (has (reached known (cuts_below cs) D (N ++ causes known r) es) x) e p
    go false c e p q = q

abbrev Within : List ℤ → List ℤ → Type 0
Within xs ys = (x : ℤ) → has xs x ≡ true → has ys x ≡ true

has_append_left : (xs ys : List ℤ) (x : ℤ) → has xs x ≡ true → has (xs ++ ys) x ≡ true
has_append_left xs ys x h = list_any-append (int_eq x) xs ys ∙ or_left (has xs x) (has ys x) h

has_append_right : (xs ys : List ℤ) (x : ℤ) → has ys x ≡ true → has (xs ++ ys) x ≡ true
has_append_right xs ys x h = list_any-append (int_eq x) xs ys ∙ or_right (has xs x) (has ys x) h

member_eq : (N : List ℤ) (x l : ℤ) → int_eq x l ≡ true → has N x ≡ has N l
member_eq N x l e = ap (has N) ((Decides-int_eq x l).0 e)

-- what is needed of the trail is reached
needed_reached : (known : List (List ℤ)) (cs : List Bool) (D N : List ℤ) (es : List Entry) → Within (grounds known cs N es) D
    → (x : ℤ) → has N x ≡ true → has (literals es) x ≡ true → has (reached known cs D N es) x ≡ true
needed_reached known cs D N [] d x n h = absurd (false≢true h)
needed_reached known cs D N ((l, None) ∷ es) d x n h =
    go (has N l) refl d (needed_reached known (cuts_below cs) D N es) (or_cases (int_eq x l) (has (literals es) x) h)
  where
    go : (b : Bool) → has N l ≡ b → Within (cond b (l ∷ grounds known (cuts_below cs) N es) (grounds known (cuts_below cs) N es)) D
        → (Within (grounds known (cuts_below cs) N es) D → (x : ℤ) → has N x ≡ true → has (literals es) x ≡ true → has (reached known (cuts_below cs) D N es) x ≡ true)
        → (int_eq x l ≡ true) ⊎ (has (literals es) x ≡ true) → has (reached known (cuts_below cs) D N es) x ≡ true
    go true is d ih (inl q) = in_reached known (cuts_below cs) D N es x (d x (or_left (int_eq x l) (has (grounds known (cuts_below cs) N es) x) q))
    go true is d ih (inr q) = ih (λ y k. d y (or_right (int_eq y l) (has (grounds known (cuts_below cs) N es) y) k)) x n q
    go false is d ih (inl q) = absurd (both_ways (has N l) is (sym (member_eq N x l q) ∙ n))
    go false is d ih (inr q) = ih d x n q
needed_reached known cs D N ((l, Some r) ∷ es) d x n h =
    go (has N l) (is_cut cs) refl d (needed_reached known (cuts_below cs) D (N ++ causes known r) es) (needed_reached known (cuts_below cs) D N es) (or_cases (int_eq x l) (has (literals es) x) h)
  where
    go : (b c : Bool) → has N l ≡ b
        → Within (cond b (cond c (l ∷ grounds known (cuts_below cs) N es) (grounds known (cuts_below cs) (N ++ causes known r) es)) (grounds known (cuts_below cs) N es)) D
        → (Within (grounds known (cuts_below cs) (N ++ causes known r) es) D → (x : ℤ) → has (N ++ causes known r) x ≡ true → has (literals es) x ≡ true → has (reached known (cuts_below cs) D (N ++ causes known r) es) x ≡ true)
        → (Within (grounds known (cuts_below cs) N es) D → (x : ℤ) → has N x ≡ true → has (literals es) x ≡ true → has (reached known (cuts_below cs) D N es) x ≡ true)
        → (int_eq x l ≡ true) ⊎ (has (literals es) x ≡ true)
        → has (cond b (cond c (reached known (cuts_below cs) D N es) (l ∷ reached known (cuts_below cs) D (N ++ causes known r) es)) (reached known (cuts_below cs) D N es)) x ≡ true
    go true true is d more same (inl q) = in_reached known (cuts_below cs) D N es x (d x (or_left (int_eq x l) (has (grounds known (cuts_below cs) N es) x) q))
    go true true is d more same (inr q) = same (λ y k. d y (or_right (int_eq y l) (has (grounds known (cuts_below cs) N es) y) k)) x n q
    go true false is d more same (inl q) = or_left (int_eq x l) (has (reached known (cuts_below cs) D (N ++ causes known r) es) x) q
    go true false is d more same (inr q) = or_right (int_eq x l) (has (reached known (cuts_below cs) D (N ++ causes known r) es) x) (more d x (has_append_left N (causes known r) x n) q)
    go false c is d more same (inl q) = absurd (both_ways (has N l) is (sym (member_eq N x l q) ∙ n))
    go false c is d more same (inr q) = same d x n q

leads_needed : (vars : ℕ) (known : List (List ℤ)) (cs : List Bool) (D N : List ℤ) (es : List Entry) → IsTrail vars known es
    → Within (grounds known cs N es) D
    → ((y : ℤ) → has (literals es) y ≡ true → has D (neg_ℤ y) ≡ false)
    → (g : ℕ) (gs : List ℕ)
    → leads known D (reverse (chain known cs N es) ++ (g ∷ gs)) ≡ leads known (reached known cs D N es) (g ∷ gs)
leads_needed vars known cs D N [] t d clear g gs = refl
leads_needed vars known cs D N ((l, None) ∷ es) t d clear g gs =
    leads_needed vars known (cuts_below cs) D N es t.1 (fewer (has N l) d) (λ y k. clear y (or_right (int_eq y l) (has (literals es) y) k)) g gs
  where
    fewer : (b : Bool) → Within (cond b (l ∷ grounds known (cuts_below cs) N es) (grounds known (cuts_below cs) N es)) D → Within (grounds known (cuts_below cs) N es) D
    fewer true d y k = d y (or_right (int_eq y l) (has (grounds known (cuts_below cs) N es) y) k)
    fewer false d y k = d y k
leads_needed vars known cs D N ((l, Some r) ∷ es) t d clear g gs =
    let clear' : (y : ℤ) → has (literals es) y ≡ true → has D (neg_ℤ y) ≡ false = λ y k. clear y (or_right (int_eq y l) (has (literals es) y) k) in
    go (has N l) (is_cut cs) d
    (λ d. leads_needed vars known (cuts_below cs) D (N ++ causes known r) es t.1 d clear' r (g ∷ gs))
    (λ d. leads_needed vars known (cuts_below cs) D N es t.1 d clear' g gs)
  where
    go : (b c : Bool)
        → Within (cond b (cond c (l ∷ grounds known (cuts_below cs) N es) (grounds known (cuts_below cs) (N ++ causes known r) es)) (grounds known (cuts_below cs) N es)) D
        → (Within (grounds known (cuts_below cs) (N ++ causes known r) es) D
        → leads known D (reverse (chain known (cuts_below cs) (N ++ causes known r) es) ++ (r ∷ g ∷ gs)) ≡ leads known (reached known (cuts_below cs) D (N ++ causes known r) es) (r ∷ g ∷ gs))
        → (Within (grounds known (cuts_below cs) N es) D
        → leads known D (reverse (chain known (cuts_below cs) N es) ++ (g ∷ gs)) ≡ leads known (reached known (cuts_below cs) D N es) (g ∷ gs))
        → leads known D (reverse (cond b (cond c (chain known (cuts_below cs) N es) (r ∷ chain known (cuts_below cs) (N ++ causes known r) es)) (chain known (cuts_below cs) N es)) ++ (g ∷ gs))
        ≡ leads known (cond b (cond c (reached known (cuts_below cs) D N es) (l ∷ reached known (cuts_below cs) D (N ++ causes known r) es)) (reached known (cuts_below cs) D N es)) (g ∷ gs)
    go false c d more same = same d
    go true true d more same = same (λ y k. d y (or_right (int_eq y l) (has (grounds known (cuts_below cs) N es) y) k))
    go true false d more same =
        let J = reached known (cuts_below cs) D (N ++ causes known r) es in
        let opens : the_open known J r ≡ Some l =
        opens_near known (literals es) J r l
        (not_reached known (cuts_below cs) D (N ++ causes known r) es (neg_ℤ l) (clear l (or_left (int_eq l l) (has (literals es) l) ((Decides-int_eq l l).1 refl)))
        (unvalued_not es (neg_ℤ l) (ap (valued es) (nat_abs-neg l) ∙ t.0.free)))
        (λ x c s. needed_reached known (cuts_below cs) D (N ++ causes known r) es d x (has_append_right N (causes known r) x c) s) t.0.why in
        ap (λ hs. leads known D (hs ++ (g ∷ gs))) (reverse_cons r (chain known (cuts_below cs) (N ++ causes known r) es))
        ∙ ap (leads known D) (append_assoc (reverse (chain known (cuts_below cs) (N ++ causes known r) es)) (r ∷ []) (g ∷ gs))
        ∙ more d
        ∙ ap (λ o. option_map_or (λ m. leads known (m ∷ J) (g ∷ gs)) o false) opens

-- it depends on literals of the trail
pub grounds_in : (known : List (List ℤ)) (cs : List Bool) (N : List ℤ) (es : List Entry) → Within (grounds known cs N es) (literals es)
grounds_in known cs N [] x h = h
grounds_in known cs N ((l, None) ∷ es) x h = go (has N l) h (grounds_in known (cuts_below cs) N es x)
  where
    go : (b : Bool) → has (cond b (l ∷ grounds known (cuts_below cs) N es) (grounds known (cuts_below cs) N es)) x ≡ true
        → (has (grounds known (cuts_below cs) N es) x ≡ true → has (literals es) x ≡ true) → (int_eq x l || has (literals es) x) ≡ true
    go true h ih = ⊎_elim (λ q. or_left (int_eq x l) (has (literals es) x) q) (λ q. or_right (int_eq x l) (has (literals es) x) (ih q)) (or_cases (int_eq x l) (has (grounds known (cuts_below cs) N es) x) h)
    go false h ih = or_right (int_eq x l) (has (literals es) x) (ih h)
grounds_in known cs N ((l, Some r) ∷ es) x h =
    go (has N l) (is_cut cs) h (grounds_in known (cuts_below cs) (N ++ causes known r) es x) (grounds_in known (cuts_below cs) N es x)
  where
    go : (b c : Bool) → has (cond b (cond c (l ∷ grounds known (cuts_below cs) N es) (grounds known (cuts_below cs) (N ++ causes known r) es)) (grounds known (cuts_below cs) N es)) x ≡ true
        → (has (grounds known (cuts_below cs) (N ++ causes known r) es) x ≡ true → has (literals es) x ≡ true)
        → (has (grounds known (cuts_below cs) N es) x ≡ true → has (literals es) x ≡ true) → (int_eq x l || has (literals es) x) ≡ true
    go true true h more same = ⊎_elim (λ q. or_left (int_eq x l) (has (literals es) x) q) (λ q. or_right (int_eq x l) (has (literals es) x) (same q)) (or_cases (int_eq x l) (has (grounds known (cuts_below cs) N es) x) h)
    go true false h more same = or_right (int_eq x l) (has (literals es) x) (more h)
    go false c h more same = or_right (int_eq x l) (has (literals es) x) (same h)

falsified_near : (S T : List ℤ) (c : List ℤ) → ((x : ℤ) → has (map neg_ℤ c) x ≡ true → has S x ≡ true → has T x ≡ true)
    → falsified S c ≡ true → falsified T c ≡ true
falsified_near S T [] more e = refl
falsified_near S T (l ∷ c) more e =
    let p = and_parts (has S (neg_ℤ l)) (falsified S c) e in
    ap (λ b. b && falsified T c) (more (neg_ℤ l) (or_left (int_eq (neg_ℤ l) (neg_ℤ l)) (has (map neg_ℤ c) (neg_ℤ l)) ((Decides-int_eq (neg_ℤ l) (neg_ℤ l)).1 refl)) p.0)
    ∙ falsified_near S T c (λ x k. more x (or_right (int_eq x (neg_ℤ l)) (has (map neg_ℤ c) x) k)) p.1

pub learnt_derives : (vars : ℕ) (known : List (List ℤ)) (cs : List Bool) (es : List Entry) → IsTrail vars known es → (h : ℕ)
    → Conflicts known es h → derives known (learnt known cs es h) ≡ true
learnt_derives vars known cs es t h f =
    let N = causes known h in
    let D = grounds known cs N es in
    ap (λ s. leads known s (reverse (h ∷ chain known cs N es))) (negs_negs D)
    ∙ ap (leads known D) (reverse_cons h (chain known cs N es))
    ∙ leads_needed vars known cs D N es t (λ y k. k)
    (λ y k. is_false (has D (neg_ℤ y)) (λ q. both_ways (has (literals es) (neg_ℤ y)) (consistent vars known es t y k) (grounds_in known cs N es (neg_ℤ y) q))) h []
    ∙ near (clause_numbered known h) (literals es) (reached known cs D N es) (needed_reached known cs D N es (λ y k. k)) f
  where
    near : (o : Option (List ℤ)) (S T : List ℤ)
        → ((x : ℤ) → has (option_map_or (map neg_ℤ) o []) x ≡ true → has S x ≡ true → has T x ≡ true)
        → option_map_or (falsified S) o false ≡ true → option_map_or (falsified T) o false ≡ true
    near None S T more f = f
    near (Some c) S T more f = falsified_near S T c more f
