-- How many variables and clauses a formula takes.
use Rattle.std.proofs.Common.{ℕ, ◌+◌, ◌*◌, ◌≤◌, ℤ, pos, List, [], ◌∷◌, ◌++◌, length, arith}
use Rattle.std.specs.Prelude.{sum_by}
use Rattle.std.proofs.lemmas.List.{length-append}
use Rattle.std.proofs.lemmas.List.Sums.{sum_by-cons}
use Rattle.spec_features.specs.Formula.{Connective, Conjunction, Disjunction, Implication, Equivalence, Formula, Constant, Variable, Negation, Joined, size}
use Rattle.spec_features.specs.Clauses.{table, encoded, last_of, constraint_clauses, constraints_from}

-- at most one variable and four clauses for each part
pub last_few : (last : ℕ) (f : Formula) → (encoded last f).last ≤ last + size f
last_few last (Constant b) = omega arith
last_few last (Variable n) = omega arith
last_few last (Negation f) = omega (arith, last_few last f)
last_few last (Joined c f g) = omega (arith, last_few last f, last_few (encoded last f).last g)

table_few : (c : Connective) (v a b : ℤ) → length (table c v a b) ≤ 4
table_few Conjunction v a b = omega arith
table_few Disjunction v a b = omega arith
table_few Implication v a b = omega arith
table_few Equivalence v a b = omega arith

pub clauses_few : (last : ℕ) (f : Formula) → length (encoded last f).clauses ≤ 4 * size f
clauses_few last (Constant b) = omega arith
clauses_few last (Variable n) = omega arith
clauses_few last (Negation f) = omega (arith, clauses_few last f)
clauses_few last (Joined c f g) =
    let l = encoded last f in
    let r = encoded l.last g in
    let t = table c (pos (r.last + 1)) l.literal r.literal in
    let p = clauses_few last f in
    let q = clauses_few l.last g in
    let k = table_few c (pos (r.last + 1)) l.literal r.literal in
    omega (arith, p, q, k, length-append l.clauses (r.clauses ++ t), length-append r.clauses t)

pub some_size : (f : Formula) → 1 ≤ size f
some_size (Constant b) = omega arith
some_size (Variable n) = omega arith
some_size (Negation f) = omega arith
some_size (Joined c f g) = omega arith

-- of formulas one behind the other, with a clause more for each
pub all_last_few : (last : ℕ) (fs : List Formula) → last_of last fs ≤ last + sum_by size fs
all_last_few last [] = omega arith
all_last_few last (f ∷ fs) =
    let k : last_of (encoded last f).last fs ≤ (encoded last f).last + sum_by size fs = all_last_few (encoded last f).last fs in
    let whole : last_of (encoded last f).last fs ≤ last + (size f + sum_by size fs) = omega (arith, k, last_few last f) in
    omega (arith, whole, sum_by-cons size f fs)

pub all_clauses_few : (last : ℕ) (fs : List Formula) → length (constraints_from last fs) ≤ 5 * sum_by size fs
all_clauses_few last [] = omega arith
all_clauses_few last (f ∷ fs) =
    let e = encoded last f in
    let rest : List (List ℤ) = constraints_from e.last fs in
    let k : length rest ≤ 5 * sum_by size fs = all_clauses_few e.last fs in
    let whole : length (constraint_clauses e ++ rest) ≤ 5 * (size f + sum_by size fs) =
    omega (arith, k, clauses_few last f, some_size f, length-append (constraint_clauses e) rest, length-append e.clauses ((e.literal ∷ []) ∷ [])) in
    omega (arith, whole, sum_by-cons size f fs)
