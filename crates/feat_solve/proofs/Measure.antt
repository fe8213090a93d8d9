-- The search ends: a number of the trail grows at each turn, and stays below a bound.
use Rattle.std.proofs.Common.{◌≡◌, ◌==◌, ℕ, zero, suc, ◌+◌, ◌-◌, ◌*◌, ◌^◌, ◌<◌, ◌≤◌, ℤ, nat_abs, Bool, true, false, cond, ◌||◌, ◌⊎◌, inl, inr, List, [], ◌∷◌, length, Some, None, refl, sym, ap, ◌∙◌, ⊎_elim, arith}
use Rattle.std.proofs.lemmas.Bool.{false≢true}
use Rattle.std.proofs.lemmas.Bool.Decides.{Decides-eqb}
use Rattle.std.proofs.Math.Nat.{pow-zero, pow-succ', mul-le-mul_right}
use Rattle.feat_solve.specs.Trail.{Entry, valued, decisions, below, last_decided, IsTrail, weight}
use Rattle.feat_solve.proofs.Trails.{is_false}
use Rattle.feat_solve.proofs.Turns.{decisions_are}

-- how many of the first variables have no value
unvalued : List Entry → ℕ → ℕ
unvalued es zero = 0
unvalued es (suc n) = cond (valued es (suc n)) 0 1 + unvalued es n

unvalued_none : (n : ℕ) → unvalued [] n ≡ n
unfolding unvalued
unvalued_none zero = refl
unvalued_none (suc n) = ap (λ k. 1 + k) (unvalued_none n) ∙ omega arith

not_equal : (a b : ℕ) → (a ≡ b → ⊥) → (a == b) ≡ false
not_equal a b h = is_false (a == b) (λ q. h ((Decides-eqb a b).0 q))

unvalued_above : (e : Entry) (es : List Entry) (n : ℕ) → n < nat_abs e.0 → unvalued (e ∷ es) n ≡ unvalued es n
unfolding unvalued
unvalued_above e es zero lt = refl
unvalued_above e es (suc n) lt =
    ap (λ b. cond (b || valued es (suc n)) 0 1 + unvalued (e ∷ es) n) (not_equal (nat_abs e.0) (suc n) (λ q. omega (arith, lt, q)))
    ∙ ap (λ k. cond (valued es (suc n)) 0 1 + k) (unvalued_above e es n (omega (arith, lt)))

unvalued_less : (e : Entry) (es : List Entry) (n : ℕ) → 0 < nat_abs e.0 → nat_abs e.0 ≤ n
    → valued es (nat_abs e.0) ≡ false → unvalued (e ∷ es) n + 1 ≡ unvalued es n
unfolding unvalued
unvalued_less e es zero some le free = absurd (omega (arith, some, le))
unvalued_less e es (suc n) some le free = go (nat_abs e.0 == suc n) refl (unvalued_less e es n some)
  where
    go : (b : Bool) → (nat_abs e.0 == suc n) ≡ b
        → (nat_abs e.0 ≤ n → valued es (nat_abs e.0) ≡ false → unvalued (e ∷ es) n + 1 ≡ unvalued es n)
        → cond (b || valued es (suc n)) 0 1 + unvalued (e ∷ es) n + 1 ≡ cond (valued es (suc n)) 0 1 + unvalued es n
    go true q ih =
        let here : nat_abs e.0 ≡ suc n = (Decides-eqb (nat_abs e.0) (suc n)).0 q in
        let out : valued es (suc n) ≡ false = ap (valued es) (sym here) ∙ free in
        let same : unvalued (e ∷ es) n ≡ unvalued es n = unvalued_above e es n (omega (arith, here)) in
        let d : Bool → ℕ = λ b. cond b 0 1 in
        let one : d (valued es (suc n)) ≡ d false = ap d out in
        omega (arith, same, one)
    go false q ih =
        let ne : nat_abs e.0 ≡ suc n → ⊥ = λ s. false≢true (sym q ∙ (Decides-eqb (nat_abs e.0) (suc n)).1 s) in
        let less : unvalued (e ∷ es) n + 1 ≡ unvalued es n = ih (⊎_elim (λ l. l) (λ s. absurd (ne s)) (le_cases (nat_abs e.0) n le)) free in
        omega (arith, less)
      where
        le_cases : (a b : ℕ) → a ≤ suc b → (a ≤ b) ⊎ (a ≡ suc b)
        le_cases zero b h = inl (omega arith)
        le_cases (suc a) zero h = inr (omega (arith, h))
        le_cases (suc a) (suc b) h = ⊎_elim (λ l. inl (omega (arith, l))) (λ s. inr (omega (arith, s))) (le_cases a b (omega (arith, h)))

-- each entry is another variable's
lengths : (vars : ℕ) (known : List (List ℤ)) (es : List Entry) → IsTrail vars known es
    → length es + unvalued es vars ≡ vars
lengths vars known [] t = let z : unvalued [] vars ≡ vars = unvalued_none vars in omega (arith, z)
lengths vars known (e ∷ es) t =
    let ih : length es + unvalued es vars ≡ vars = lengths vars known es t.1 in
    let less : unvalued (e ∷ es) vars + 1 ≡ unvalued es vars = unvalued_less e es vars t.0.within.some t.0.within.within t.0.free in
    omega (arith, ih, less)

pub few_entries : (vars : ℕ) (known : List (List ℤ)) (es : List Entry) → IsTrail vars known es → length es ≤ vars
few_entries vars known es t = omega (arith, lengths vars known es t)

pow_grows : (b i k : ℕ) → (b + 1) ^ i ≤ (b + 1) ^ (i + k)
pow_grows b i zero = let e : i + 0 ≡ i = omega arith in rw e (omega arith)
pow_grows b i (suc k) =
    let e : i + suc k ≡ suc (i + k) = omega arith in
    let ih : (b + 1) ^ i ≤ (b + 1) ^ (i + k) = pow_grows b i k in
    let s : (b + 1) ^ suc (i + k) ≡ (b + 1) * (b + 1) ^ (i + k) = pow-succ' (b + 1) (i + k) in
    let m : 1 * (b + 1) ^ (i + k) ≤ (b + 1) * (b + 1) ^ (i + k) = mul-le-mul_right ((b + 1) ^ (i + k)) (omega arith) in
    rw e (rw s (omega (arith, ih, m)))

pow_le : (b i j : ℕ) → i ≤ j → (b + 1) ^ i ≤ (b + 1) ^ j
pow_le b i j le = let e : i + (j - i) ≡ j = omega (arith, le) in rw e at (pow_grows b i (j - i))

pub decisions_few : (es : List Entry) → length (decisions es) ≤ length es
decisions_few [] = omega arith
decisions_few ((l, None) ∷ es) = omega (arith, decisions_few es)
decisions_few ((l, Some h) ∷ es) = omega (arith, decisions_few es)

suc-mul' : (n x : ℕ) → suc n * x ≡ x + n * x
suc-mul' n x = grind arith

weight_bound : (vars : ℕ) (es : List Entry) → weight vars es ≤ length es * (vars + 1) ^ vars
unfolding weight
weight_bound vars [] = omega arith
weight_bound vars (e ∷ es) =
    let p : (vars + 1) ^ (vars - length (decisions (e ∷ es))) ≤ (vars + 1) ^ vars = pow_le vars (vars - length (decisions (e ∷ es))) vars (omega arith) in
    let ih : weight vars es ≤ length es * (vars + 1) ^ vars = weight_bound vars es in
    let s : suc (length es) * (vars + 1) ^ vars ≡ (vars + 1) ^ vars + length es * (vars + 1) ^ vars = suc-mul' (length es) ((vars + 1) ^ vars) in
    omega (arith, p, ih, s)

-- the bound
pub bounded : (vars : ℕ) (known : List (List ℤ)) (es : List Entry) → IsTrail vars known es
    → weight vars es ≤ (vars + 1) ^ (vars + 1)
bounded vars known es t =
    let b : weight vars es ≤ length es * (vars + 1) ^ vars = weight_bound vars es in
    let m : length es * (vars + 1) ^ vars ≤ (vars + 1) * (vars + 1) ^ vars = mul-le-mul_right ((vars + 1) ^ vars) (omega (arith, few_entries vars known es t)) in
    let e : vars + 1 ≡ suc vars = omega arith in
    let s : (vars + 1) ^ (suc vars) ≡ (vars + 1) * (vars + 1) ^ vars = pow-succ' (vars + 1) vars in
    let s2 : (vars + 1) ^ (vars + 1) ≡ (vars + 1) * (vars + 1) ^ vars = ap (λ k. (vars + 1) ^ k) e ∙ s in
    omega (arith, b, m, s2)

pub pow_some : (b i : ℕ) → 0 < (b + 1) ^ i
pow_some b i = let p : (b + 1) ^ 0 ≤ (b + 1) ^ i = pow_le b 0 i (omega arith) in
    let z : (b + 1) ^ 0 ≡ 1 = pow-zero (b + 1) in
    omega (arith, p, z)

-- it grows as an entry joins
pub pushed : (vars : ℕ) (e : Entry) (es : List Entry) → weight vars es < weight vars (e ∷ es)
unfolding weight
pushed vars e es = omega (arith, pow_some vars (vars - length (decisions (e ∷ es))))

-- what stands above the trail below weighs little
pub weight_above : (vars : ℕ) (es : List Entry) (d : ℤ) → last_decided es ≡ Some d
    → weight vars es ≤ weight vars (below es) + length es * (vars + 1) ^ (vars - suc (length (decisions (below es))))
unfolding weight
weight_above vars [] d e = absurd cc
weight_above vars ((l, None) ∷ es) d e =
    let x = (vars + 1) ^ (vars - suc (length (decisions es))) in
    let s : suc (length es) * x ≡ x + length es * x = suc-mul' (length es) x in
    omega (arith, s)
weight_above vars ((l, Some h) ∷ es) d e =
    let x = (vars + 1) ^ (vars - suc (length (decisions (below es)))) in
    let ih : weight vars es ≤ weight vars (below es) + length es * x = weight_above vars es d e in
    let s : suc (length es) * x ≡ x + length es * x = suc-mul' (length es) x in
    let same : (vars + 1) ^ (vars - length (decisions es)) ≡ x = ap (λ ds. (vars + 1) ^ (vars - length ds)) (decisions_are es d e) in
    omega (arith, ih, s, same)
