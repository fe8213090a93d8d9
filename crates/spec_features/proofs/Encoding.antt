-- The clauses of a formula say what it says: its literal is true where it holds, and its auxiliaries have one state each.
use Rattle.std.proofs.Common.{◌≡◌, ℕ, zero, suc, ◌+◌, ◌<◌, ◌≤◌, ℤ, pos, negsuc, neg_ℤ, nat_abs, Bool, true, false, not, ◌||◌, ◌&&◌, List, [], ◌∷◌, ◌++◌, length, refl, sym, ap, ◌∙◌, subst, arith, add-zero}
use Rattle.std.specs.List.{AllByRecursion}
use Rattle.std.proofs.lemmas.Bool.{and_parts, and_from}
use Rattle.std.proofs.lemmas.List.{length-append}
use Rattle.std.proofs.lemmas.List.Folds.{list_all-append}
use Rattle.spec_refutation.specs.Literals.{literal_true, clause_true, satisfies}
use Rattle.spec_refutation.specs.Reading.{IsLiteral, IsClause}
use Rattle.spec_refutation.proofs.Agreement.{clauses_wider, Agree}
use Rattle.spec_features.specs.Fact.{same_truth}
use Rattle.spec_features.specs.Formula.{Connective, Conjunction, Disjunction, Implication, Equivalence, Formula, Constant, Variable, Negation, Joined, joins, holds, Uses}
use Rattle.spec_features.specs.Clauses.{signed, table, either_clauses, encoded}

-- ---- literals

pub neg_true : (v : ℕ → Bool) (l : ℤ) → 0 < nat_abs l → literal_true v (neg_ℤ l) ≡ not (literal_true v l)
neg_true v (pos zero) some = absurd (omega (arith, some))
neg_true v (pos (suc n)) some = refl
neg_true v (negsuc n) some = twice (v (suc n))
  where
    twice : (b : Bool) → b ≡ not (not b)
    twice true = refl
    twice false = refl

pub neg_some : (l : ℤ) → nat_abs (neg_ℤ l) ≡ nat_abs l
neg_some (pos zero) = refl
neg_some (pos (suc n)) = refl
neg_some (negsuc n) = refl

pub neg_literal : (n : ℕ) (l : ℤ) → IsLiteral n l → IsLiteral n (neg_ℤ l)
neg_literal n l i = record { some = omega (arith, neg_some l, i.some); within = omega (arith, neg_some l, i.within) }

pub variable_true : (v : ℕ → Bool) (n : ℕ) → 0 < n → literal_true v (pos n) ≡ v n
variable_true v zero some = absurd (omega (arith, some))
variable_true v (suc n) some = refl

pub signed_true : (v : ℕ → Bool) (on : Bool) (n : ℕ) → 0 < n → literal_true v (signed on n) ≡ same_truth on (v n)
signed_true v true n some = variable_true v n some
signed_true v false n some = neg_true v (pos n) some ∙ ap not (variable_true v n some)

pub signed_literal : (last : ℕ) (on : Bool) (n : ℕ) → 0 < n → n ≤ last → IsLiteral last (signed on n)
signed_literal last true n some le = record { some = some; within = le }
signed_literal last false n some le = neg_literal last (pos n) (record { some = some; within = le })

-- ---- the clauses of a connective

pub same_is : (a b : Bool) → same_truth a b ≡ true → b ≡ a
same_is true b e = e
same_is false true e = absurd cc
same_is false false e = refl

pub same_refl : (a : Bool) → same_truth a a ≡ true
same_refl true = refl
same_refl false = refl

-- with literals and their negations as truths
either_true : (x a b nx na nb : Bool) → nx ≡ not x → na ≡ not a → nb ≡ not b
    → ((x || (na || false)) && ((x || (nb || false)) && ((nx || (a || (b || false))) && true))) ≡ same_truth x (a || b)
either_true x a b nx na nb ex ea eb = rw (ex, ea, eb) (go x a b)
  where
    go : (x a b : Bool) → ((x || (not a || false)) && ((x || (not b || false)) && ((not x || (a || (b || false))) && true))) ≡ same_truth x (a || b)
    go true true true = refl
    go true true false = refl
    go true false true = refl
    go true false false = refl
    go false true true = refl
    go false true false = refl
    go false false true = refl
    go false false false = refl

both_true : (x a b nx na nb : Bool) → nx ≡ not x → na ≡ not a → nb ≡ not b
    → ((nx || (a || false)) && ((nx || (b || false)) && ((x || (na || (nb || false))) && true))) ≡ same_truth x (a && b)
both_true x a b nx na nb ex ea eb = rw (ex, ea, eb) (go x a b)
  where
    go : (x a b : Bool) → ((not x || (a || false)) && ((not x || (b || false)) && ((x || (not a || (not b || false))) && true))) ≡ same_truth x (a && b)
    go true true true = refl
    go true true false = refl
    go true false true = refl
    go true false false = refl
    go false true true = refl
    go false true false = refl
    go false false true = refl
    go false false false = refl

alike_true : (x a b nx na nb : Bool) → nx ≡ not x → na ≡ not a → nb ≡ not b
    → ((nx || (na || (b || false))) && ((nx || (a || (nb || false))) && ((x || (a || (b || false))) && ((x || (na || (nb || false))) && true)))) ≡ same_truth x (same_truth a b)
alike_true x a b nx na nb ex ea eb = rw (ex, ea, eb) (go x a b)
  where
    go : (x a b : Bool) → ((not x || (not a || (b || false))) && ((not x || (a || (not b || false))) && ((x || (a || (b || false))) && ((x || (not a || (not b || false))) && true)))) ≡ same_truth x (same_truth a b)
    go true true true = refl
    go true true false = refl
    go true false true = refl
    go true false false = refl
    go false true true = refl
    go false true false = refl
    go false false true = refl
    go false false false = refl

either_says : (v : ℕ → Bool) (x a b : ℤ) → 0 < nat_abs x → 0 < nat_abs a → 0 < nat_abs b
    → satisfies v (either_clauses x a b) ≡ same_truth (literal_true v x) (literal_true v a || literal_true v b)
either_says v x a b sx sa sb =
    either_true (literal_true v x) (literal_true v a) (literal_true v b) (literal_true v (neg_ℤ x)) (literal_true v (neg_ℤ a)) (literal_true v (neg_ℤ b))
    (neg_true v x sx) (neg_true v a sa) (neg_true v b sb)

-- the clauses hold where the new variable is what the connective makes of both sides
table_says : (v : ℕ → Bool) (c : Connective) (x a b : ℤ) → 0 < nat_abs x → 0 < nat_abs a → 0 < nat_abs b
    → satisfies v (table c x a b) ≡ same_truth (literal_true v x) (joins c (literal_true v a) (literal_true v b))
table_says v Conjunction x a b sx sa sb =
    both_true (literal_true v x) (literal_true v a) (literal_true v b) (literal_true v (neg_ℤ x)) (literal_true v (neg_ℤ a)) (literal_true v (neg_ℤ b))
    (neg_true v x sx) (neg_true v a sa) (neg_true v b sb)
table_says v Disjunction x a b sx sa sb = either_says v x a b sx sa sb
table_says v Implication x a b sx sa sb =
    either_says v x (neg_ℤ a) b sx (omega (arith, neg_some a, sa)) sb ∙ ap (λ t. same_truth (literal_true v x) (t || literal_true v b)) (neg_true v a sa)
table_says v Equivalence x a b sx sa sb =
    alike_true (literal_true v x) (literal_true v a) (literal_true v b) (literal_true v (neg_ℤ x)) (literal_true v (neg_ℤ a)) (literal_true v (neg_ℤ b))
    (neg_true v x sx) (neg_true v a sa) (neg_true v b sb)

-- ---- variables

pub uses_wider : (n m : ℕ) → n ≤ m → (f : Formula) → Uses n f → Uses m f
uses_wider n m le (Constant b) u = tt
uses_wider n m le (Variable k) u = (u.0, omega (arith, u.1, le))
uses_wider n m le (Negation f) u = uses_wider n m le f u
uses_wider n m le (Joined c f g) u = (uses_wider n m le f u.0, uses_wider n m le g u.1)

pub holds_same : (n : ℕ) (u v : ℕ → Bool) → Agree n u v → (f : Formula) → Uses n f → holds u f ≡ holds v f
holds_same n u v a (Constant b) w = refl
holds_same n u v a (Variable k) w = a k w.0 w.1
holds_same n u v a (Negation f) w = ap not (holds_same n u v a f w)
holds_same n u v a (Joined c f g) w =
    ap (λ b. joins c b (holds u g)) (holds_same n u v a f w.0) ∙ ap (λ b. joins c (holds v f) b) (holds_same n u v a g w.1)

-- ---- auxiliaries

-- the states of the auxiliaries of a formula, in order
abbrev pub auxiliaries : (ℕ → Bool) → Formula → List Bool
auxiliaries u (Constant b) = b ∷ []
auxiliaries u (Variable n) = []
auxiliaries u (Negation f) = auxiliaries u f
auxiliaries u (Joined c f g) = auxiliaries u f ++ (auxiliaries u g ++ joins c (holds u f) (holds u g) ∷ [])

-- an assignment has these states behind a variable
abbrev pub Carries : (ℕ → Bool) → ℕ → List Bool → Type 0
Carries v last [] = Unit {0}
Carries v last (b ∷ bs) = (v (last + 1) ≡ b) × Carries v (last + 1) bs

pub carries_both : (v : ℕ → Bool) (last : ℕ) (xs ys : List Bool) → Carries v last xs → Carries v (last + length xs) ys → Carries v last (xs ++ ys)
carries_both v last [] ys i j = let P : ℕ → Type 0 = λ n. Carries v n ys in subst P (add-zero last) j
carries_both v last (x ∷ xs) ys i j =
    let P : ℕ → Type 0 = λ n. Carries v n ys in
    let e : last + length (x ∷ xs) ≡ last + 1 + length xs = omega arith in
    (i.0, carries_both v (last + 1) xs ys i.1 (subst P e j))

pub carries_parts : (v : ℕ → Bool) (last : ℕ) (xs ys : List Bool) → Carries v last (xs ++ ys) → Carries v last xs × Carries v (last + length xs) ys
carries_parts v last [] ys i = (tt, (let P : ℕ → Type 0 = λ n. Carries v n ys in subst P (sym (add-zero last)) i))
carries_parts v last (x ∷ xs) ys i =
    let P : ℕ → Type 0 = λ n. Carries v n ys in
    let e : last + length (x ∷ xs) ≡ last + 1 + length xs = omega arith in
    let rest = carries_parts v (last + 1) xs ys i.1 in
    ((i.0, rest.0), subst P (sym e) rest.1)

pub last_is : (u : ℕ → Bool) (last : ℕ) (f : Formula) → (encoded last f).last ≡ last + length (auxiliaries u f)
last_is u last (Constant b) = refl
last_is u last (Variable n) = sym (add-zero last)
last_is u last (Negation f) = last_is u last f
last_is u last (Joined c f g) =
    let l = encoded last f in
    let p : l.last ≡ last + length (auxiliaries u f) = last_is u last f in
    let q : (encoded l.last g).last ≡ l.last + length (auxiliaries u g) = last_is u l.last g in
    let r = length-append (auxiliaries u f) (auxiliaries u g ++ joins c (holds u f) (holds u g) ∷ []) in
    let s = length-append (auxiliaries u g) (joins c (holds u f) (holds u g) ∷ []) in
    omega (arith, p, q, r, s)

-- ---- bounds

pub grows : (last : ℕ) (f : Formula) → last ≤ (encoded last f).last
grows last f = omega (arith, last_is (λ n. true) last f)

pub literal_bounded : (last : ℕ) (f : Formula) → Uses last f → IsLiteral (encoded last f).last (encoded last f).literal
literal_bounded last (Constant b) u = record { some = omega arith; within = omega arith }
literal_bounded last (Variable n) u = record { some = u.0; within = u.1 }
literal_bounded last (Negation f) u = neg_literal (encoded last f).last (encoded last f).literal (literal_bounded last f u)
literal_bounded last (Joined c f g) u = record { some = omega arith; within = omega arith }

pub all_both : {X : Type 0} (P : X → Type 0) (xs ys : List X) → AllByRecursion P xs → AllByRecursion P ys → AllByRecursion P (xs ++ ys)
all_both P [] ys a b = b
all_both P (x ∷ xs) ys a b = (a.0, all_both P xs ys a.1 b)

literal_wider : (n m : ℕ) → n ≤ m → (l : ℤ) → IsLiteral n l → IsLiteral m l
literal_wider n m le l i = record { some = i.some; within = omega (arith, i.within, le) }

pair_bounded : (n : ℕ) (a b : ℤ) → IsLiteral n a → IsLiteral n b → IsClause n (a ∷ b ∷ [])
pair_bounded n a b ia ib = (ia, (ib, tt))

triple_bounded : (n : ℕ) (a b c : ℤ) → IsLiteral n a → IsLiteral n b → IsLiteral n c → IsClause n (a ∷ b ∷ c ∷ [])
triple_bounded n a b c ia ib ic = (ia, (ib, (ic, tt)))

either_bounded : (n : ℕ) (x a b : ℤ) → IsLiteral n x → IsLiteral n a → IsLiteral n b → AllByRecursion (IsClause n) (either_clauses x a b)
either_bounded n x a b ix ia ib = (
  pair_bounded n x (neg_ℤ a) ix (neg_literal n a ia),
  (pair_bounded n x (neg_ℤ b) ix (neg_literal n b ib), (triple_bounded n (neg_ℤ x) a b (neg_literal n x ix) ia ib, tt)),
)

table_bounded : (n : ℕ) (c : Connective) (x a b : ℤ) → IsLiteral n x → IsLiteral n a → IsLiteral n b → AllByRecursion (IsClause n) (table c x a b)
table_bounded n Conjunction x a b ix ia ib = (
  pair_bounded n (neg_ℤ x) a (neg_literal n x ix) ia,
  (pair_bounded n (neg_ℤ x) b (neg_literal n x ix) ib, (triple_bounded n x (neg_ℤ a) (neg_ℤ b) ix (neg_literal n a ia) (neg_literal n b ib), tt)),
)
table_bounded n Disjunction x a b ix ia ib = either_bounded n x a b ix ia ib
table_bounded n Implication x a b ix ia ib = either_bounded n x (neg_ℤ a) b ix (neg_literal n a ia) ib
table_bounded n Equivalence x a b ix ia ib =
    let nx = neg_literal n x ix in
    let na = neg_literal n a ia in
    let nb = neg_literal n b ib in (
      triple_bounded n (neg_ℤ x) (neg_ℤ a) b nx na ib,
      (triple_bounded n (neg_ℤ x) a (neg_ℤ b) nx ia nb, (triple_bounded n x a b ix ia ib, (triple_bounded n x (neg_ℤ a) (neg_ℤ b) ix na nb, tt))),
    )

-- each literal of the clauses is within the greatest variable
pub clauses_bounded : (last : ℕ) (f : Formula) → Uses last f → AllByRecursion (IsClause (encoded last f).last) (encoded last f).clauses
clauses_bounded last (Constant b) u = ((signed_literal (last + 1) b (last + 1) (omega arith) (omega arith), tt), tt)
clauses_bounded last (Variable n) u = tt
clauses_bounded last (Negation f) u = clauses_bounded last f u
clauses_bounded last (Joined c f g) u =
    let l = encoded last f in
    let r = encoded l.last g in
    let v : ℕ = r.last + 1 in
    let uses : Uses l.last g = uses_wider last l.last (grows last f) g u.1 in
    let low : l.last ≤ v = omega (arith, grows l.last g) in
    let high : r.last ≤ v = omega arith in
    all_both (IsClause v) l.clauses (r.clauses ++ table c (pos v) l.literal r.literal)
    (clauses_wider l.last v low l.clauses (clauses_bounded last f u.0))
    (all_both (IsClause v) r.clauses (table c (pos v) l.literal r.literal)
    (clauses_wider r.last v high r.clauses (clauses_bounded l.last g uses))
    (table_bounded v c (pos v) l.literal r.literal (record { some = omega arith; within = omega arith })
    (literal_wider l.last v low l.literal (literal_bounded last f u.0)) (literal_wider r.last v high r.literal (literal_bounded l.last g uses))))

-- ---- what the clauses say

-- under u a formula holds or not; v agrees with u on the variables up to n, and the clauses stand behind a last variable
pub record Says (u v : ℕ → Bool) (last : ℕ) (f : Formula) : Type 0 where
  pub made : Carries v last (auxiliaries u f) → satisfies v (encoded last f).clauses ≡ true
  pub forced : satisfies v (encoded last f).clauses ≡ true → Carries v last (auxiliaries u f)
  pub literal : satisfies v (encoded last f).clauses ≡ true → literal_true v (encoded last f).literal ≡ holds u f

one_clause : (b : Bool) → ((b || false) && true) ≡ b
one_clause true = refl
one_clause false = refl

pub says : (n : ℕ) (u v : ℕ → Bool) → Agree n u v → (last : ℕ) → n ≤ last → (f : Formula) → Uses n f → Says u v last f
says n u v a last le (Constant b) w =
    let one : satisfies v ((signed b (last + 1) ∷ []) ∷ []) ≡ same_truth b (v (last + 1)) =
    one_clause (literal_true v (signed b (last + 1))) ∙ signed_true v b (last + 1) (omega arith) in
    record {
      made = λ carries. one ∙ ap (same_truth b) carries.0 ∙ same_refl b;
      forced = λ s. (same_is b (v (last + 1)) (sym one ∙ s), tt);
      literal = λ s. variable_true v (last + 1) (omega arith) ∙ same_is b (v (last + 1)) (sym one ∙ s);
    }
says n u v a last le (Variable k) w = record { made = λ carries. refl; forced = λ s. tt; literal = λ s. variable_true v k w.0 ∙ sym (a k w.0 w.1) }
says n u v a last le (Negation f) w =
    let inner = says n u v a last le f w in
    record {
      made = inner.made;
      forced = inner.forced;
      literal = λ s. neg_true v (encoded last f).literal (literal_bounded last f (uses_wider n last le f w)).some ∙ ap not (inner.literal s);
    }
says n u v a last le (Joined c f g) w =
    joined_says u v last c f g (says n u v a last le f w.0)
    (says n u v a (encoded last f).last (omega (arith, le, grows last f)) g w.1)
    (literal_bounded last f (uses_wider n last le f w.0)).some
    (literal_bounded (encoded last f).last g (uses_wider n (encoded last f).last (omega (arith, le, grows last f)) g w.1)).some
  where
    joined_says : (u v : ℕ → Bool) (last : ℕ) (c : Connective) (f g : Formula) → Says u v last f → Says u v (encoded last f).last g
        → 0 < nat_abs (encoded last f).literal → 0 < nat_abs (encoded (encoded last f).last g).literal → Says u v last (Joined c f g)
    joined_says u v last c f g left right some_left some_right =
        let l = encoded last f in
        let r = encoded l.last g in
        let x : Bool = joins c (holds u f) (holds u g) in
        let t : List (List ℤ) = table c (pos (r.last + 1)) l.literal r.literal in
        let positive : 0 < nat_abs (pos (r.last + 1)) = omega arith in
        let whole : satisfies v (l.clauses ++ (r.clauses ++ t)) ≡ (satisfies v l.clauses && (satisfies v r.clauses && satisfies v t)) =
        list_all-append (clause_true v) l.clauses (r.clauses ++ t) ∙ ap (λ b. satisfies v l.clauses && b) (list_all-append (clause_true v) r.clauses t) in
        let gate : satisfies v l.clauses ≡ true → satisfies v r.clauses ≡ true → satisfies v t ≡ same_truth (v (r.last + 1)) x =
        λ sl sr. table_says v c (pos (r.last + 1)) l.literal r.literal positive some_left some_right
        ∙ ap (λ b. same_truth b (joins c (literal_true v l.literal) (literal_true v r.literal))) (variable_true v (r.last + 1) (omega arith))
        ∙ ap (λ b. same_truth (v (r.last + 1)) (joins c b (literal_true v r.literal))) (left.literal sl)
        ∙ ap (λ b. same_truth (v (r.last + 1)) (joins c (holds u f) b)) (right.literal sr) in
        let parts : satisfies v (l.clauses ++ (r.clauses ++ t)) ≡ true → (satisfies v l.clauses ≡ true) × ((satisfies v r.clauses ≡ true) × (satisfies v t ≡ true)) =
        λ s. let p = and_parts (satisfies v l.clauses) (satisfies v r.clauses && satisfies v t) (sym whole ∙ s) in
        (p.0, and_parts (satisfies v r.clauses) (satisfies v t) p.1) in
        let at : ℕ → Type 0 = λ k. Carries v k (auxiliaries u g ++ x ∷ []) in
        let at_end : ℕ → Type 0 = λ k. Carries v k (x ∷ []) in
        let before : l.last ≡ last + length (auxiliaries u f) = last_is u last f in
        let behind : r.last ≡ l.last + length (auxiliaries u g) = last_is u l.last g in
        record {
          made = λ carries.
              let p = carries_parts v last (auxiliaries u f) (auxiliaries u g ++ x ∷ []) carries in
              let q = carries_parts v l.last (auxiliaries u g) (x ∷ []) (subst at (sym before) p.1) in
              let end : at_end r.last = subst at_end (sym behind) q.1 in
              let sl = left.made p.0 in
              let sr = right.made q.0 in
              whole ∙ and_from (satisfies v l.clauses) (satisfies v r.clauses && satisfies v t) sl
              (and_from (satisfies v r.clauses) (satisfies v t) sr
              (gate sl sr ∙ ap (λ b. same_truth b x) end.0 ∙ same_refl x));
          forced = λ s.
              let p = parts s in
              let end : at_end r.last = (sym (same_is (v (r.last + 1)) x (sym (gate p.0 p.1.0) ∙ p.1.1)), tt) in
              carries_both v last (auxiliaries u f) (auxiliaries u g ++ x ∷ []) (left.forced p.0)
              (subst at before (carries_both v l.last (auxiliaries u g) (x ∷ []) (right.forced p.1.0) (subst at_end behind end)));
          literal = λ s.
              let p = parts s in
              variable_true v (r.last + 1) (omega arith) ∙ sym (same_is (v (r.last + 1)) x (sym (gate p.0 p.1.0) ∙ p.1.1));
        }
