-- Three facts of the trail give the first solution: every decision is true; every forced literal follows;
-- and where a variable has no value, it is greater than the variable of each decision.
use Rattle.std.proofs.Common.{◌≡◌, ◌==◌, ℕ, zero, suc, ◌<◌, ℤ, pos, negsuc, neg_ℤ, nat_abs, Bool, true, false, not, ◌||◌, ◌&&◌, List, [], ◌∷◌, Option, Some, None, refl, sym, ap, ◌∙◌, ⊎_elim, arith}
use Rattle.std.specs.Prelude.{slice_index_or}
use Rattle.std.specs.List.{list_any, AllByRecursion}
use Rattle.std.specs.Option.{option_and_then}
use Rattle.std.specs.Ordering.{int_eq}
use Rattle.std.proofs.lemmas.Bool.{false≢true, both_ways, or_cases, or_parts, or_left, or_right}
use Rattle.std.proofs.lemmas.Bool.Decides.{Decides-int_eq, Decides-eqb}
use Rattle.spec_refutation.specs.Literals.{literal_true, clause_true, satisfies}
use Rattle.spec_refutation.specs.Derivation.{has, open_literals, the_only, falsified, clause_numbered}
use Rattle.spec_refutation.specs.Reading.{IsLiteral, IsClause}
use Rattle.spec_refutation.proofs.Sound.{neg_of_true, AllNegationsFalse, open_true, only_true, numbered_true}
use Rattle.spec_refutation.specs.First.{assignment, IsFirst}
use Rattle.feat_solve.specs.Trail.{Entry, literals, valued, decisions, Decided, IsTrail, AreStates, Complete}
use Rattle.feat_solve.proofs.Trails.{valued_has, decided_in}

abbrev AllTrue : (ℕ → Bool) → List ℤ → Type 0
AllTrue v ls = (m : ℤ) → has ls m ≡ true → literal_true v m ≡ true

-- where all clauses are true, and the decisions, so is the trail
all_true : (vars : ℕ) (known : List (List ℤ)) (v : ℕ → Bool) → satisfies v known ≡ true
    → (es : List Entry) → IsTrail vars known es → AllTrue v (decisions es) → AllTrue v (literals es)
all_true vars known v s [] t d m h = absurd (false≢true h)
all_true vars known v s ((l, None) ∷ es) t d m h = ⊎_elim
    (λ q. d m (or_left (int_eq m l) (has (decisions es) m) q))
    (λ q. all_true vars known v s es t.1 (λ y k. d y (or_right (int_eq y l) (has (decisions es) y) k)) m q)
    (or_cases (int_eq m l) (has (literals es) m) h)
all_true vars known v s ((l, Some r) ∷ es) t d m h = ⊎_elim
    (λ q. ap (literal_true v) ((Decides-int_eq m l).0 q) ∙ forced (clause_numbered known r) refl t.0.why (λ y k. neg_of_true v y (all_true vars known v s es t.1 d y k)))
    (λ q. all_true vars known v s es t.1 d m q)
    (or_cases (int_eq m l) (has (literals es) m) h)
  where
    forced : (o : Option (List ℤ)) → clause_numbered known r ≡ o
        → option_and_then (λ c. the_only (open_literals (literals es) c)) o ≡ Some l
        → AllNegationsFalse v (literals es) → literal_true v l ≡ true
    forced None is e a = absurd cc
    forced (Some c) is e a =
        only_true v (open_literals (literals es) c) l e (open_true v (literals es) a c (numbered_true v known r c s is))

-- a variable without a value is greater than each decided one
decided_less : (vars : ℕ) (known : List (List ℤ)) (es : List Entry) → IsTrail vars known es → (x : ℕ) → 0 < x
    → valued es x ≡ false → (m : ℤ) → has (decisions es) m ≡ true
    → (m ≡ pos (nat_abs m)) × (nat_abs m < x) × (0 < nat_abs m)
decided_less vars known [] t x some out m h = absurd (false≢true h)
decided_less vars known ((l, Some r) ∷ es) t x some out m h =
    decided_less vars known es t.1 x some (or_parts (nat_abs l == x) (valued es x) out).1 m h
decided_less vars known ((l, None) ∷ es) t x some out m h = ⊎_elim
    (λ q. let is : m ≡ l = (Decides-int_eq m l).0 q in
    let w : Decided es l = t.0.why in
    let p = or_parts (nat_abs l == x) (valued es x) out in (
      is ∙ w.positive ∙ ap (λ z. pos (nat_abs z)) (sym is),
      ap_lt (ap nat_abs is) (less (nat_abs l) p.0 (λ lt. both_ways (valued es x) p.1 (w.least x some lt))),
      ap_some (ap nat_abs is) t.0.within.some,
    ))
    (λ q. decided_less vars known es t.1 x some (or_parts (nat_abs l == x) (valued es x) out).1 m q)
    (or_cases (int_eq m l) (has (decisions es) m) h)
  where
    ap_lt : {a b : ℕ} → a ≡ b → b < x → a < x
    ap_lt e lt = omega (arith, e, lt)

    ap_some : {a b : ℕ} → a ≡ b → 0 < b → 0 < a
    ap_some e lt = omega (arith, e, lt)

    by_order : (a : ℕ) → (a ≡ x → ⊥) → (x < a → ⊥) → a < x
    by_order a ne above = omega (arith, ne, above)

    less : (a : ℕ) → (a == x) ≡ false → (x < a → ⊥) → a < x
    less a ne above = by_order a (λ e. both_ways (a == x) ne ((Decides-eqb a x).1 e)) above

-- Where the trail makes a variable false, no assignment that makes all clauses true, and each smaller
-- variable that the trail makes true, makes it true.
pub never_true : (vars : ℕ) (known : List (List ℤ)) (v : ℕ → Bool) → satisfies v known ≡ true → (x : ℕ) → 0 < x
    → v x ≡ true → (es : List Entry) → IsTrail vars known es
    → ((y : ℕ) → 0 < y → y < x → has (literals es) (pos y) ≡ true → v y ≡ true)
    → has (literals es) (neg_ℤ (pos x)) ≡ true → ⊥
never_true vars known v s x some on [] t agree h = false≢true h
never_true vars known v s zero some on (e ∷ es) t agree h = omega (arith, some)
never_true vars known v s (suc x) some on ((l, None) ∷ es) t agree h = ⊎_elim
    (λ q. let is : negsuc x ≡ l = (Decides-int_eq (negsuc x) l).0 q in
    let w : Decided es l = t.0.why in
    let bad : negsuc x ≡ pos (nat_abs l) = is ∙ w.positive in absurd cc)
    (λ q. never_true vars known v s (suc x) some on es t.1 (λ y p lt k. agree y p lt (or_right (int_eq (pos y) l) (has (literals es) (pos y)) k)) q)
    (or_cases (int_eq (negsuc x) l) (has (literals es) (negsuc x)) h)
never_true vars known v s (suc x) some on ((l, Some r) ∷ es) t agree h = ⊎_elim
    (λ q. let is : negsuc x ≡ l = (Decides-int_eq (negsuc x) l).0 q in
    let out : valued es (suc x) ≡ false = ap (λ z. valued es (nat_abs z)) is ∙ t.0.free in
    let ds : AllTrue v (decisions es) = λ m k.
    let f = decided_less vars known es t.1 (suc x) some out m k in
    ap (literal_true v) f.0 ∙ positive (nat_abs m) f.2 ∙ agree (nat_abs m) f.2 f.1 (or_right (int_eq (pos (nat_abs m)) l) (has (literals es) (pos (nat_abs m))) (ap (has (literals es)) (sym f.0) ∙ decided_in es m k)) in
    let off : literal_true v (negsuc x) ≡ true = all_true vars known v s ((l, Some r) ∷ es) t ds (negsuc x) h in
    both_ways (literal_true v (negsuc x)) (ap not on) off)
    (λ q. never_true vars known v s (suc x) some on es t.1 (λ y p lt k. agree y p lt (or_right (int_eq (pos y) l) (has (literals es) (pos y)) k)) q)
    (or_cases (int_eq (negsuc x) l) (has (literals es) (negsuc x)) h)
  where
    positive : (n : ℕ) → 0 < n → literal_true v (pos n) ≡ v n
    positive zero p = absurd (omega (arith, p))
    positive (suc n) p = refl

literal_states : (vars : ℕ) (known : List (List ℤ)) (es : List Entry) → IsTrail vars known es
    → (states : List Bool) → AreStates vars es states → Complete vars es → (l : ℤ) → IsLiteral vars l
    → has (literals es) (neg_ℤ l) ≡ false → literal_true (assignment states) l ≡ true
literal_states vars known es t states is all (pos zero) i out = absurd (omega (arith, i.some))
literal_states vars known es t states is all (pos (suc k)) i out =
    is.1 k (omega (arith, i.within))
    ∙ ⊎_elim (λ h. h) (λ h. absurd (both_ways (has (literals es) (negsuc k)) out h)) (valued_has es (suc k) (all (suc k) i.some i.within))
literal_states vars known es t states is all (negsuc k) i out =
    ap not (is.1 k (omega (arith, i.within)) ∙ out)

clause_states : (vars : ℕ) (known : List (List ℤ)) (es : List Entry) → IsTrail vars known es
    → (states : List Bool) → AreStates vars es states → Complete vars es → (c : List ℤ) → IsClause vars c
    → falsified (literals es) c ≡ false → clause_true (assignment states) c ≡ true
clause_states vars known es t states is all [] i f = absurd (false≢true (sym f))
clause_states vars known es t states is all (l ∷ c) i f = go (has (literals es) (neg_ℤ l)) refl f (clause_states vars known es t states is all c i.1)
  where
    go : (b : Bool) → has (literals es) (neg_ℤ l) ≡ b → (b && falsified (literals es) c) ≡ false
        → (falsified (literals es) c ≡ false → clause_true (assignment states) c ≡ true)
        → (literal_true (assignment states) l || clause_true (assignment states) c) ≡ true
    go true q f ih = or_right (literal_true (assignment states) l) (clause_true (assignment states) c) (ih f)
    go false q f ih = or_left (literal_true (assignment states) l) (clause_true (assignment states) c) (literal_states vars known es t states is all l i.0 q)

pub states_satisfy : (vars : ℕ) (known : List (List ℤ)) (es : List Entry) → IsTrail vars known es
    → (states : List Bool) → AreStates vars es states → Complete vars es → (cs : List (List ℤ))
    → AllByRecursion (IsClause vars) cs → list_any (falsified (literals es)) cs ≡ false
    → satisfies (assignment states) cs ≡ true
states_satisfy vars known es t states is all [] i f = refl
states_satisfy vars known es t states is all (c ∷ cs) i f =
    let p = or_parts (falsified (literals es) c) (list_any (falsified (literals es)) cs) f in
    ap (λ b. b && satisfies (assignment states) cs) (clause_states vars known es t states is all c i.0 p.0)
    ∙ states_satisfy vars known es t states is all cs i.1 p.1

-- a complete trail that falsifies no clause gives the first list
pub first_is : (vars : ℕ) (clauses known : List (List ℤ))
    → ((v : ℕ → Bool) → satisfies v clauses ≡ true → satisfies v known ≡ true)
    → (es : List Entry) → IsTrail vars known es → (states : List Bool) → AreStates vars es states
    → Complete vars es → AllByRecursion (IsClause vars) clauses
    → list_any (falsified (literals es)) clauses ≡ false → IsFirst vars clauses states
first_is vars clauses known follow es t states is all i f = record {
  whole = is.0;
  good = states_satisfy vars known es t states is all clauses i f;
  first = λ others len s b.
      let lt : b.at < vars = omega (arith, b.within, is.0) in
      let out : has (literals es) (pos (suc b.at)) ≡ false = sym (is.1 b.at lt) ∙ b.off in
      let neg : has (literals es) (neg_ℤ (pos (suc b.at))) ≡ true =
      ⊎_elim (λ h. absurd (both_ways (has (literals es) (pos (suc b.at))) out h)) (λ h. h) (valued_has es (suc b.at) (all (suc b.at) (omega arith) (omega (arith, lt)))) in
      never_true vars known (assignment others) (follow (assignment others) s) (suc b.at) (omega arith) b.on es t
      (agrees others b.at (λ k low. b.agree k low ∙ is.1 k (omega (arith, lt, low)))) neg;
}
  where
    agrees : (others : List Bool) (at : ℕ)
        → ((k : ℕ) → k < at → slice_index_or others k false ≡ has (literals es) (pos (suc k)))
        → (y : ℕ) → 0 < y → y < suc at → has (literals es) (pos y) ≡ true → assignment others y ≡ true
    agrees others at each zero some low h = absurd (omega (arith, some))
    agrees others at each (suc k) some low h = each k (omega (arith, low)) ∙ h
