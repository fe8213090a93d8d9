-- The trail once it is taken back by more than one level, and a learnt clause's literal is turned round.
use Rattle.std.proofs.Common.{◌≡◌, ◌==◌, ℕ, suc, ◌+◌, ◌-◌, ◌*◌, ◌^◌, ◌<◌, ◌≤◌, ℤ, neg_ℤ, nat_abs, Bool, true, false, cond, not, ◌⊎◌, inl, inr, List, [], ◌∷◌, ◌++◌, map, length, Some, None, refl, sym, ap, ◌∙◌, subst, ⊎_elim, arith}
use Rattle.std.specs.List.{list_all}
use Rattle.std.specs.Option.{option_and_then}
use Rattle.std.specs.Ordering.{int_eq}
use Rattle.std.proofs.lemmas.Bool.{false≢true, both_ways, and_parts, and_from, or_cases, or_parts, or_left, or_right}
use Rattle.std.proofs.lemmas.Bool.Decides.{Decides-int_eq}
use Rattle.std.proofs.Math.Nat.{pow-succ', mul-le-mul_right}
use Rattle.spec_refutation.specs.Derivation.{has, open_literals, the_only, the_open}
use Rattle.spec_refutation.proofs.Sound.{neg-neg}
use Rattle.feat_solve.specs.Trail.{Entry, literals, valued, decisions, below, last_decided, IsTrail, weight}
use Rattle.feat_solve.specs.Learnt.{settled}
use Rattle.feat_solve.proofs.Trails.{is_false, nat_abs-neg, decided_in, unvalued_not}
use Rattle.feat_solve.proofs.Turns.{slice_get-seam, trail_more, trail_below, last_stands, decisions_are, no_decisions, IsLiteral-neg}
use Rattle.feat_solve.proofs.Measure.{few_entries, decisions_few, weight_above, pow_some}

-- what holds of a trail and of each level below holds of the settled one
pub settled_keeps : (c : List ℤ) (R : List Entry → Type 0)
    → ((k : List Entry) (t : ℤ) → R k → last_decided k ≡ Some t → has c (neg_ℤ t) ≡ false → R (below k))
    → (keep es : List Entry) → last_decided keep ≡ last_decided es → below keep ≡ below es → R keep → R (settled c keep es)
settled_keeps c R step keep [] last low r = r
settled_keeps c R step keep ((l, None) ∷ es) last low r = go (has c (neg_ℤ l)) refl (settled_keeps c R step es es refl refl)
  where
    go : (b : Bool) → has c (neg_ℤ l) ≡ b → (R es → R (settled c es es)) → R (cond b keep (settled c es es))
    go true is ih = r
    go false is ih = ih (subst R low (step keep l r last is))
settled_keeps c R step keep ((l, Some h) ∷ es) last low r = settled_keeps c R step keep es last low r

-- and its last decision is needed
pub settled_last : (c : List ℤ) (keep es : List Entry) → last_decided keep ≡ last_decided es → (d : ℤ)
    → last_decided (settled c keep es) ≡ Some d → has c (neg_ℤ d) ≡ true
settled_last c keep [] last d e = let q : None ≡ Some d = sym last ∙ e in absurd cc
settled_last c keep ((l, None) ∷ es) last d e = go (has c (neg_ℤ l)) refl (settled_last c es es refl d) e
  where
    go : (b : Bool) → has c (neg_ℤ l) ≡ b → (last_decided (settled c es es) ≡ Some d → has c (neg_ℤ d) ≡ true)
        → last_decided (cond b keep (settled c es es)) ≡ Some d → has c (neg_ℤ d) ≡ true
    go true is ih e = let q : Some l ≡ Some d = sym last ∙ e in let s : l ≡ d = cc in ap (λ z. has c (neg_ℤ z)) (sym s) ∙ is
    go false is ih e = ih e
settled_last c keep ((l, Some h) ∷ es) last d e = settled_last c keep es last d e

-- one level at a time
pub settled_level : (c : List ℤ) (keep es : List Entry) (d : ℤ) → last_decided es ≡ Some d → has c (neg_ℤ d) ≡ false
    → settled c keep es ≡ settled c (below es) (below es)
settled_level c keep [] d e f = absurd cc
settled_level c keep ((l, None) ∷ es) d e f =
    let s : l ≡ d = cc in ap (λ b. cond b keep (settled c es es)) (ap (λ z. has c (neg_ℤ z)) s ∙ f)
settled_level c keep ((l, Some h) ∷ es) d e f = settled_level c keep es d e f

pub settled_stays : (c : List ℤ) (keep es : List Entry) (d : ℤ) → last_decided es ≡ Some d → has c (neg_ℤ d) ≡ true
    → settled c keep es ≡ keep
settled_stays c keep [] d e f = absurd cc
settled_stays c keep ((l, None) ∷ es) d e f =
    let s : l ≡ d = cc in ap (λ b. cond b keep (settled c es es)) (ap (λ z. has c (neg_ℤ z)) s ∙ f)
settled_stays c keep ((l, Some h) ∷ es) d e f = settled_stays c keep es d e f

pub settled_bottom : (c : List ℤ) (keep es : List Entry) → last_decided es ≡ None → settled c keep es ≡ keep
settled_bottom c keep [] e = refl
settled_bottom c keep ((l, None) ∷ es) e = absurd cc
settled_bottom c keep ((l, Some h) ∷ es) e = settled_bottom c keep es e

-- Of a trail that is taken back: its weight and one more entry's are above the weight before.
pub record Back (vars : ℕ) (known : List (List ℤ)) (start es : List Entry) : Type 0 where
  pub trail : IsTrail vars known es
  pub grows : weight vars start < weight vars es + (vars + 1) ^ (vars - length (decisions es))

pub back_starts : (vars : ℕ) (known : List (List ℤ)) (es : List Entry) → IsTrail vars known es → Back vars known es es
back_starts vars known es t = record { trail = t; grows = omega (arith, pow_some vars (vars - length (decisions es))) }

pub back_level : (vars : ℕ) (known : List (List ℤ)) (start es : List Entry) (d : ℤ) → Back vars known start es
    → last_decided es ≡ Some d → Back vars known start (below es)
back_level vars known start es d b e =
    let k = length (decisions (below es)) in
    let x = (vars + 1) ^ (vars - suc k) in
    let w : weight vars es ≤ weight vars (below es) + length es * x = weight_above vars es d e in
    let few : length es ≤ vars = few_entries vars known es b.trail in
    let ds : length (decisions es) ≡ suc k = ap length (decisions_are es d e) in
    let many : length (decisions es) ≤ length es = decisions_few es in
    let exponent : vars - k ≡ suc (vars - suc k) = omega (arith, ds, many, few) in
    let s : (vars + 1) ^ (vars - k) ≡ (vars + 1) * x = ap (λ j. (vars + 1) ^ j) exponent ∙ pow-succ' (vars + 1) (vars - suc k) in
    let here : (vars + 1) ^ (vars - length (decisions es)) ≡ x = ap (λ j. (vars + 1) ^ (vars - j)) ds in
    let m : length es * x ≤ vars * x = mul-le-mul_right x few in
    let one : (vars + 1) * x ≡ x + vars * x = grind arith in
    let grows : weight vars start < weight vars es + (vars + 1) ^ (vars - length (decisions es)) = b.grows in
    record { trail = trail_below vars known es b.trail; grows = omega (arith, w, s, here, m, one, grows) }

pub back_pushed : (vars : ℕ) (known : List (List ℤ)) (start es : List Entry) (l : ℤ) (n : ℕ) → Back vars known start es
    → weight vars start < weight vars ((l, Some n) ∷ es)
unfolding weight
back_pushed vars known start es l n b =
    let grows : weight vars start < weight vars es + (vars + 1) ^ (vars - length (decisions es)) = b.grows in omega (arith, grows)

valued_below : (es : List Entry) (x : ℕ) → valued es x ≡ false → valued (below es) x ≡ false
valued_below [] x f = f
valued_below ((l, None) ∷ es) x f = (or_parts (nat_abs l == x) (valued es x) f).1
valued_below ((l, Some h) ∷ es) x f = valued_below es x (or_parts (nat_abs l == x) (valued es x) f).1

has_negs : (ds : List ℤ) (x : ℤ) → has ds x ≡ true → has (map neg_ℤ ds) (neg_ℤ x) ≡ true
has_negs [] x h = h
has_negs (d ∷ ds) x h = ⊎_elim
    (λ q. or_left (int_eq (neg_ℤ x) (neg_ℤ d)) (has (map neg_ℤ ds) (neg_ℤ x)) ((Decides-int_eq (neg_ℤ x) (neg_ℤ d)).1 (ap neg_ℤ ((Decides-int_eq x d).0 q))))
    (λ q. or_right (int_eq (neg_ℤ x) (neg_ℤ d)) (has (map neg_ℤ ds) (neg_ℤ x)) (has_negs ds x q))
    (or_cases (int_eq x d) (has ds x) h)

negs_has : (ds : List ℤ) (x : ℤ) → has (map neg_ℤ ds) (neg_ℤ x) ≡ true → has ds x ≡ true
negs_has [] x h = h
negs_has (d ∷ ds) x h = ⊎_elim
    (λ q. let s : neg_ℤ x ≡ neg_ℤ d = (Decides-int_eq (neg_ℤ x) (neg_ℤ d)).0 q in
    or_left (int_eq x d) (has ds x) ((Decides-int_eq x d).1 (sym (neg-neg x) ∙ ap neg_ℤ s ∙ neg-neg d)))
    (λ q. or_right (int_eq x d) (has ds x) (negs_has ds x q))
    (or_cases (int_eq (neg_ℤ x) (neg_ℤ d)) (has (map neg_ℤ ds) (neg_ℤ x)) h)

-- of the first phase: each needed decision stands yet
abbrev Kept : List ℤ → List Entry → Type 0
Kept ds es = (x : ℤ) → has ds x ≡ true → has (decisions es) x ≡ true

abbrev KeptBut : ℤ → List ℤ → List Entry → Type 0
KeptBut d ds es = (x : ℤ) → has ds x ≡ true → (x ≡ d) ⊎ (has (decisions es) x ≡ true)

kept_level : (ds : List ℤ) (es : List Entry) (t x : ℤ) → last_decided es ≡ Some t → has (decisions es) x ≡ true
    → (x ≡ t) ⊎ (has (decisions (below es)) x ≡ true)
kept_level ds es t x e h = ⊎_elim (λ q. inl ((Decides-int_eq x t).0 q)) (λ q. inr q)
    (or_cases (int_eq x t) (has (decisions (below es)) x) (ap (λ z. has z x) (sym (decisions_are es t e)) ∙ h))

not_needed : (ds : List ℤ) (t x : ℤ) → has (map neg_ℤ ds) (neg_ℤ t) ≡ false → has ds x ≡ true → x ≡ t → ⊥
not_needed ds t x f h e = both_ways (has (map neg_ℤ ds) (neg_ℤ t)) f (has_negs ds t (ap (has ds) (sym e) ∙ h))

-- where all but one of the needed decisions stand, the clause of their negations has the one open
only_neg : (ls : List ℤ) (m : ℤ) → list_all (int_eq m) ls ≡ true → has ls m ≡ true → the_only ls ≡ Some m
only_neg [] m a h = absurd (false≢true h)
only_neg (k ∷ ls) m a h =
    let p = and_parts (int_eq m k) (list_all (int_eq m) ls) a in
    let s : m ≡ k = (Decides-int_eq m k).0 p.0 in
    ap (λ z. cond (list_all (int_eq z) ls) (Some z) None) (sym s) ∙ ap (λ b. cond b (Some m) None) p.1

open_all : (S ds : List ℤ) (d : ℤ) → ((x : ℤ) → has ds x ≡ true → (x ≡ d) ⊎ (has S x ≡ true))
    → list_all (int_eq (neg_ℤ d)) (open_literals S (map neg_ℤ ds)) ≡ true
open_all S [] d m = refl
open_all S (x ∷ ds) d m = go (has S (neg_ℤ (neg_ℤ x))) refl (open_all S ds d (λ y h. m y (or_right (int_eq y x) (has ds y) h)))
  where
    go : (b : Bool) → has S (neg_ℤ (neg_ℤ x)) ≡ b → list_all (int_eq (neg_ℤ d)) (open_literals S (map neg_ℤ ds)) ≡ true
        → list_all (int_eq (neg_ℤ d)) (cond (not b) (neg_ℤ x ∷ open_literals S (map neg_ℤ ds)) (open_literals S (map neg_ℤ ds))) ≡ true
    go true is ih = ih
    go false is ih = ⊎_elim
        (λ e. and_from (int_eq (neg_ℤ d) (neg_ℤ x)) (list_all (int_eq (neg_ℤ d)) (open_literals S (map neg_ℤ ds))) ((Decides-int_eq (neg_ℤ d) (neg_ℤ x)).1 (ap neg_ℤ (sym e))) ih)
        (λ h. absurd (both_ways (has S (neg_ℤ (neg_ℤ x))) is (ap (has S) (neg-neg x) ∙ h)))
        (m x (or_left (int_eq x x) (has ds x) ((Decides-int_eq x x).1 refl)))

open_has : (S ds : List ℤ) (d : ℤ) → has S d ≡ false → has ds d ≡ true → has (open_literals S (map neg_ℤ ds)) (neg_ℤ d) ≡ true
open_has S [] d out h = h
open_has S (x ∷ ds) d out h = go (has S (neg_ℤ (neg_ℤ x))) refl (or_cases (int_eq d x) (has ds d) h) (open_has S ds d out)
  where
    go : (b : Bool) → has S (neg_ℤ (neg_ℤ x)) ≡ b → (int_eq d x ≡ true) ⊎ (has ds d ≡ true)
        → (has ds d ≡ true → has (open_literals S (map neg_ℤ ds)) (neg_ℤ d) ≡ true)
        → has (cond (not b) (neg_ℤ x ∷ open_literals S (map neg_ℤ ds)) (open_literals S (map neg_ℤ ds))) (neg_ℤ d) ≡ true
    go true is (inl q) ih = absurd (both_ways (has S d) out (ap (has S) ((Decides-int_eq d x).0 q ∙ sym (neg-neg x)) ∙ is))
    go true is (inr q) ih = ih q
    go false is (inl q) ih = or_left (int_eq (neg_ℤ d) (neg_ℤ x)) (has (open_literals S (map neg_ℤ ds)) (neg_ℤ d)) ((Decides-int_eq (neg_ℤ d) (neg_ℤ x)).1 (ap neg_ℤ ((Decides-int_eq d x).0 q)))
    go false is (inr q) ih = or_right (int_eq (neg_ℤ d) (neg_ℤ x)) (has (open_literals S (map neg_ℤ ds)) (neg_ℤ d)) (ih q)

-- of the second phase
record Low (vars : ℕ) (known : List (List ℤ)) (start : List Entry) (ds : List ℤ) (d : ℤ) (es : List Entry) : Type 0 where
  pub back : Back vars known start es
  pub free : valued es (nat_abs d) ≡ false
  pub kept : KeptBut d ds es

module _ (vars : ℕ) (known : List (List ℤ)) (es : List Entry) (ds : List ℤ) (t : IsTrail vars known es) (in_trail : Kept ds es) where
  first_phase : Back vars known es (settled (map neg_ℤ ds) es es) × Kept ds (settled (map neg_ℤ ds) es es)
  first_phase = settled_keeps (map neg_ℤ ds) (λ k. Back vars known es k × Kept ds k)
      (λ k t r e f. (back_level vars known es k t r.0 e, λ x h. ⊎_elim (λ q. absurd (not_needed ds t x f h q)) (λ q. q) (kept_level ds k t x e (r.1 x h))))
      es es refl refl (back_starts vars known es t, in_trail)

  -- no decision is left: none is needed
  pub jump_closed : last_decided (settled (map neg_ℤ ds) es es) ≡ None → (x : ℤ) → has ds x ≡ false
  jump_closed none x = is_false (has ds x) (λ h. false≢true (ap (λ l. has l x) (sym (no_decisions (settled (map neg_ℤ ds) es es) none)) ∙ first_phase.1 x h))

  -- one is: it is turned round on the levels that are needed besides
  pub jump_turned : (d : ℤ) → last_decided (settled (map neg_ℤ ds) es es) ≡ Some d → (n : ℕ) → n ≡ suc (length known)
      → let low = below (settled (map neg_ℤ ds) es es) in
      IsTrail vars (known ++ (map neg_ℤ ds ∷ [])) ((neg_ℤ d, Some n) ∷ settled (map neg_ℤ ds) low low)
      × (weight vars es < weight vars ((neg_ℤ d, Some n) ∷ settled (map neg_ℤ ds) low low))
  jump_turned d last n num =
      let top = settled (map neg_ℤ ds) es es in
      let low = below top in
      let base = settled (map neg_ℤ ds) low low in
      let stands = last_stands vars known top d first_phase.0.trail last in
      let needed : has ds d ≡ true = negs_has ds d (settled_last (map neg_ℤ ds) es es refl d last) in
      let l : Low vars known es ds d base = settled_keeps (map neg_ℤ ds) (Low vars known es ds d)
      (λ k t r e f. record {
        back = back_level vars known es k t r.back e;
        free = valued_below k (nat_abs d) r.free;
        kept = λ x h. ⊎_elim (λ q. inl q) (λ q. ⊎_elim (λ s. absurd (not_needed ds t x f h s)) (λ s. inr s) (kept_level ds k t x e q)) (r.kept x h);
      })
      low low refl refl (record {
        back = back_level vars known es top d first_phase.0 last;
        free = stands.free;
        kept = λ x h. kept_level ds top d x last (first_phase.1 x h);
      }) in
      let S = literals base in
      let out : has S d ≡ false = unvalued_not base d l.free in
      let one : the_only (open_literals S (map neg_ℤ ds)) ≡ Some (neg_ℤ d) =
      only_neg (open_literals S (map neg_ℤ ds)) (neg_ℤ d)
      (open_all S ds d (λ x h. ⊎_elim (λ q. inl q) (λ q. inr (decided_in base x q)) (l.kept x h)))
      (open_has S ds d out needed) in (
        (
          record {
            within = IsLiteral-neg vars d stands.within;
            free = ap (valued base) (nat_abs-neg d) ∙ l.free;
            why = ap (the_open (known ++ (map neg_ℤ ds ∷ [])) S) num
                ∙ ap (λ o. option_and_then (λ c. the_only (open_literals S c)) o) (slice_get-seam known (map neg_ℤ ds)) ∙ one;
          },
          trail_more vars known (map neg_ℤ ds ∷ []) base l.back.trail,
        ),
        back_pushed vars known es base (neg_ℤ d) n l.back,
      )

pub below_shorter : (es : List Entry) (d : ℤ) → last_decided es ≡ Some d → length (below es) < length es
below_shorter [] d e = absurd cc
below_shorter ((l, None) ∷ es) d e = omega arith
below_shorter ((l, Some h) ∷ es) d e = omega (arith, below_shorter es d e)
