-- Clauses over the variables up to a number: wider numbers, and assignments that agree on these variables.
use Rattle.std.proofs.Common.{◌≡◌, ℕ, zero, suc, ◌<◌, ◌≤◌, ℤ, pos, negsuc, Bool, not, ◌||◌, ◌&&◌, List, [], ◌∷◌, refl, ap, ◌∙◌, arith}
use Rattle.std.specs.List.{AllByRecursion}
use Rattle.spec_refutation.specs.Literals.{literal_true, clause_true, satisfies}
use Rattle.spec_refutation.specs.Reading.{IsLiteral, IsClause}

-- a wider bound holds too
pub clause_wider : (n vars : ℕ) → n ≤ vars → (c : List ℤ) → IsClause n c → IsClause vars c
clause_wider n vars le [] i = tt
clause_wider n vars le (l ∷ c) i =
    (record { some = i.0.some; within = omega (arith, le, i.0.within) }, clause_wider n vars le c i.1)

pub clauses_wider : (n vars : ℕ) → n ≤ vars → (cs : List (List ℤ)) → AllByRecursion (IsClause n) cs → AllByRecursion (IsClause vars) cs
clauses_wider n vars le [] i = tt
clauses_wider n vars le (c ∷ cs) i = (clause_wider n vars le c i.0, clauses_wider n vars le cs i.1)

-- assignments that agree on the variables of the clauses
abbrev pub Agree : ℕ → (ℕ → Bool) → (ℕ → Bool) → Type 0
Agree n u v = (x : ℕ) → 0 < x → x ≤ n → u x ≡ v x

pub literal_same : (n : ℕ) (u v : ℕ → Bool) → Agree n u v → (l : ℤ) → IsLiteral n l → literal_true u l ≡ literal_true v l
literal_same n u v a (pos zero) i = refl
literal_same n u v a (pos (suc k)) i = a (suc k) i.some i.within
literal_same n u v a (negsuc k) i = ap not (a (suc k) i.some i.within)

pub clause_same : (n : ℕ) (u v : ℕ → Bool) → Agree n u v → (c : List ℤ) → IsClause n c → clause_true u c ≡ clause_true v c
clause_same n u v a [] i = refl
clause_same n u v a (l ∷ c) i =
    ap (λ b. b || clause_true u c) (literal_same n u v a l i.0) ∙ ap (λ b. literal_true v l || b) (clause_same n u v a c i.1)

pub satisfies_same : (n : ℕ) (u v : ℕ → Bool) → Agree n u v → (cs : List (List ℤ)) → AllByRecursion (IsClause n) cs
    → satisfies u cs ≡ satisfies v cs
satisfies_same n u v a [] i = refl
satisfies_same n u v a (c ∷ cs) i =
    ap (λ b. b && satisfies u cs) (clause_same n u v a c i.0) ∙ ap (λ b. clause_true v c && b) (satisfies_same n u v a cs i.1)
