-- Where a log refutes clauses, nothing satisfies them.
use Rattle.std.proofs.Common.{◌≡◌, ℕ, zero, suc, ◌<◌, ◌≤◌, ℤ, pos, negsuc, neg_ℤ, Bool, true, false, cond, not, ◌||◌, ◌&&◌, List, [], ◌∷◌, ◌++◌, map, take, length, Option, Some, None, refl, sym, ap, ◌∙◌, ⊎_elim, arith}
use Rattle.std.specs.Prelude.{slice_get}
use Rattle.std.specs.List.{list_all}
use Rattle.std.specs.Option.{option_map_or, option_and_then}
use Rattle.std.specs.Ordering.{int_eq}
use Rattle.std.proofs.lemmas.Bool.{false≢true, both_ways, not-true, and_parts, and_from, or_cases, or_parts, or_from, or_left}
use Rattle.std.proofs.lemmas.Bool.Decides.{Decides-int_eq}
use Rattle.std.proofs.lemmas.Option.{cond_some}
use Rattle.std.proofs.lemmas.List.{map-append, append_assoc}
use Rattle.std.proofs.Math.Seq.{take-suc}
use Rattle.std.proofs.lemmas.List.Folds.{list_all-append}
use Rattle.spec_refutation.specs.Literals.{literal_true, clause_true, satisfies}
use Rattle.spec_refutation.specs.Derivation.{Step, has, open_literals, the_only, falsified, clause_numbered, leads, derives}
use Rattle.spec_refutation.specs.Refutation.{clauses_before, step_at, EachFollows, Refutes}

pub neg-neg : (l : ℤ) → neg_ℤ (neg_ℤ l) ≡ l
neg-neg (pos zero) = refl
neg-neg (pos (suc n)) = refl
neg-neg (negsuc n) = refl

-- the negation of a true literal is false
pub neg_of_true : (v : ℕ → Bool) (l : ℤ) → literal_true v l ≡ true → literal_true v (neg_ℤ l) ≡ false
neg_of_true v (pos zero) e = absurd (false≢true e)
neg_of_true v (pos (suc n)) e = ap not e
neg_of_true v (negsuc n) e = not-true (v (suc n)) e

-- the negation of each member of the set is false
abbrev pub AllNegationsFalse : (ℕ → Bool) → List ℤ → Type 0
AllNegationsFalse v set = (m : ℤ) → has set m ≡ true → literal_true v (neg_ℤ m) ≡ false

-- a literal whose negation is in such a set is false
pub opposed_false : (v : ℕ → Bool) (set : List ℤ) → AllNegationsFalse v set → (l : ℤ) → has set (neg_ℤ l) ≡ true
    → literal_true v l ≡ false
opposed_false v set a l e = ap (literal_true v) (sym (neg-neg l)) ∙ a (neg_ℤ l) e

falsified_false : (v : ℕ → Bool) (set : List ℤ) → AllNegationsFalse v set → (c : List ℤ)
    → falsified set c ≡ true → clause_true v c ≡ false
falsified_false v set a [] e = refl
falsified_false v set a (l ∷ c) e =
    let p = and_parts (has set (neg_ℤ l)) (falsified set c) e in
    or_from (literal_true v l) (clause_true v c) (opposed_false v set a l p.0) (falsified_false v set a c p.1)

-- a true clause is true by a literal that the set leaves open
pub open_true : (v : ℕ → Bool) (set : List ℤ) → AllNegationsFalse v set → (c : List ℤ) → clause_true v c ≡ true
    → clause_true v (open_literals set c) ≡ true
open_true v set a [] e = e
open_true v set a (l ∷ c) e = go (has set (neg_ℤ l)) refl (open_true v set a c)
  where
    go : (b : Bool) → has set (neg_ℤ l) ≡ b
        → (clause_true v c ≡ true → clause_true v (open_literals set c) ≡ true)
        → clause_true v (cond (not b) (l ∷ open_literals set c) (open_literals set c)) ≡ true
    go true h ih = ⊎_elim (λ t. absurd (both_ways (literal_true v l) (opposed_false v set a l h) t)) ih (or_cases (literal_true v l) (clause_true v c) e)
    go false h ih = ⊎_elim (λ t. or_left (literal_true v l) (clause_true v (open_literals set c)) t) (λ t. or_second (literal_true v l) (ih t)) (or_cases (literal_true v l) (clause_true v c) e)
      where
        or_second : (x : Bool) {y : Bool} → y ≡ true → (x || y) ≡ true
        or_second true e = refl
        or_second false e = e

-- a list of equal literals is true where its literal is
equal_true : (v : ℕ → Bool) (l : ℤ) (ls : List ℤ) → list_all (int_eq l) ls ≡ true → clause_true v ls ≡ true
    → literal_true v l ≡ true
equal_true v l [] same e = absurd (false≢true e)
equal_true v l (m ∷ ls) same e =
    let p = and_parts (int_eq l m) (list_all (int_eq l) ls) same in
    ⊎_elim (λ t. ap (literal_true v) ((Decides-int_eq l m).0 p.0) ∙ t) (equal_true v l ls p.1) (or_cases (literal_true v m) (clause_true v ls) e)

pub only_true : (v : ℕ → Bool) (ls : List ℤ) (l : ℤ) → the_only ls ≡ Some l → clause_true v ls ≡ true
    → literal_true v l ≡ true
only_true v [] l e t = absurd (false≢true t)
only_true v (k ∷ ks) l e t =
    let p = cond_some (list_all (int_eq k) ks) k l e in
    ap (literal_true v) (sym p.1) ∙ ⊎_elim (λ h. h) (equal_true v k ks p.0) (or_cases (literal_true v k) (clause_true v ks) t)

-- a true literal joins
joins : (v : ℕ → Bool) (set : List ℤ) (l : ℤ) → AllNegationsFalse v set → literal_true v l ≡ true
    → AllNegationsFalse v (l ∷ set)
joins v set l a t m e = ⊎_elim (λ h. ap (λ z. literal_true v (neg_ℤ z)) ((Decides-int_eq m l).0 h) ∙ neg_of_true v l t) (a m) (or_cases (int_eq m l) (has set m) e)

pub got_true : (v : ℕ → Bool) (known : List (List ℤ)) (k : ℕ) (c : List ℤ) → satisfies v known ≡ true
    → slice_get known k ≡ Some c → clause_true v c ≡ true
got_true v [] k c s e = absurd cc
got_true v (d ∷ known) zero c s e = let q : d ≡ c = cc in ap (clause_true v) (sym q) ∙ (and_parts (clause_true v d) (satisfies v known) s).0
got_true v (d ∷ known) (suc k) c s e = got_true v known k c (and_parts (clause_true v d) (satisfies v known) s).1 e

pub numbered_true : (v : ℕ → Bool) (known : List (List ℤ)) (h : ℕ) (c : List ℤ) → satisfies v known ≡ true
    → clause_numbered known h ≡ Some c → clause_true v c ≡ true
numbered_true v known zero c s e = absurd cc
numbered_true v known (suc k) c s e = got_true v known k c s e

-- where all clauses are true, no hints lead from such a set to a falsified one
leads_sound : (v : ℕ → Bool) (known : List (List ℤ)) → satisfies v known ≡ true → (hs : List ℕ) (set : List ℤ)
    → AllNegationsFalse v set → leads known set hs ≡ true → ⊥
leads_sound v known s [] set a e = false≢true e
leads_sound v known s (h ∷ []) set a e = go (clause_numbered known h) refl e
  where
    go : (o : Option (List ℤ)) → clause_numbered known h ≡ o → option_map_or (falsified set) o false ≡ true → ⊥
    go None is e = false≢true e
    go (Some c) is e = both_ways (clause_true v c) (falsified_false v set a c e) (numbered_true v known h c s is)
leads_sound v known s (h ∷ g ∷ hs) set a e = go (clause_numbered known h) refl e (leads_sound v known s (g ∷ hs))
  where
    go : (o : Option (List ℤ)) → clause_numbered known h ≡ o
        → option_map_or (λ l. leads known (l ∷ set) (g ∷ hs)) (option_and_then (λ c. the_only (open_literals set c)) o) false ≡ true
        → ((set : List ℤ) → AllNegationsFalse v set → leads known set (g ∷ hs) ≡ true → ⊥) → ⊥
    go None is e ih = false≢true e
    go (Some c) is e ih = at (the_only (open_literals set c)) refl e
      where
        at : (p : Option ℤ) → the_only (open_literals set c) ≡ p
            → option_map_or (λ l. leads known (l ∷ set) (g ∷ hs)) p false ≡ true → ⊥
        at None one e = false≢true e
        at (Some l) one e = ih (l ∷ set) (joins v set l a (only_true v (open_literals set c) l one (open_true v set a c (numbered_true v known h c s is)))) e

-- the negations of the literals of a false clause are such a set
false_clause : (v : ℕ → Bool) (ls : List ℤ) → clause_true v ls ≡ false → AllNegationsFalse v (map neg_ℤ ls)
false_clause v [] f m e = absurd (false≢true e)
false_clause v (l ∷ ls) f m e =
    let p = or_parts (literal_true v l) (clause_true v ls) f in
    ⊎_elim (λ h. ap (λ z. literal_true v (neg_ℤ z)) ((Decides-int_eq m (neg_ℤ l)).0 h) ∙ ap (literal_true v) (neg-neg l) ∙ p.0) (false_clause v ls p.1 m) (or_cases (int_eq m (neg_ℤ l)) (has (map neg_ℤ ls) m) e)

-- a step that follows is true wherever the clauses before it are
pub derives_sound : (v : ℕ → Bool) (known : List (List ℤ)) (step : Step) → satisfies v known ≡ true
    → derives known step ≡ true → clause_true v step.0 ≡ true
derives_sound v known step s e = go (clause_true v step.0) refl
  where
    go : (b : Bool) → clause_true v step.0 ≡ b → b ≡ true
    go true is = refl
    go false is = absurd (leads_sound v known s step.1 (map neg_ℤ step.0) (false_clause v step.0 is) e)

-- so all steps are that follow one after the other
pub steps_true : (v : ℕ → Bool) (clauses : List (List ℤ)) (steps : List Step) → satisfies v clauses ≡ true
    → (n : ℕ) → n ≤ length steps → EachFollows clauses steps n
    → satisfies v (clauses_before clauses steps n) ≡ true
steps_true v clauses steps s zero le each = list_all-append (clause_true v) clauses [] ∙ and_from (satisfies v clauses) true s refl
steps_true v clauses steps s (suc n) le each =
    let before : satisfies v (clauses_before clauses steps n) ≡ true = steps_true v clauses steps s n (omega arith) (λ i lt. each i (omega arith)) in
    let step : clause_true v (step_at steps n).0 ≡ true = derives_sound v (clauses_before clauses steps n) (step_at steps n) before (each n (omega arith)) in
    let more : clauses_before clauses steps (suc n) ≡ clauses_before clauses steps n ++ ((step_at steps n).0 ∷ []) =
    ap (λ t. clauses ++ map (λ (s : Step). s.0) t) (take-suc steps n ([], []) le)
    ∙ ap (λ t. clauses ++ t) (map-append (λ (s : Step). s.0) (take n steps) (step_at steps n ∷ []))
    ∙ sym (append_assoc clauses (map (λ (s : Step). s.0) (take n steps)) ((step_at steps n).0 ∷ [])) in
    ap (satisfies v) more
    ∙ list_all-append (clause_true v) (clauses_before clauses steps n) ((step_at steps n).0 ∷ [])
    ∙ and_from (satisfies v (clauses_before clauses steps n)) (clause_true v (step_at steps n).0 && true) before (and_from (clause_true v (step_at steps n).0) true step refl)

-- and the empty clause never is
pub refutes_sound : (clauses : List (List ℤ)) (steps : List Step) → Refutes clauses steps → (v : ℕ → Bool)
    → satisfies v clauses ≡ true → ⊥
refutes_sound clauses steps r v s =
    let i = r.empty.0 in
    let lt : i < length steps = r.empty.1 in
    let before : satisfies v (clauses_before clauses steps i) ≡ true = steps_true v clauses steps s i (omega arith) (λ k below. r.each k (omega arith)) in
    let step : clause_true v (step_at steps i).0 ≡ true = derives_sound v (clauses_before clauses steps i) (step_at steps i) before (r.each i lt) in
    false≢true (sym (ap (clause_true v) r.empty.2) ∙ step)
