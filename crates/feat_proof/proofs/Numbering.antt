-- The clause of a number among clauses and steps.
use Rattle.std.proofs.Common.{◌≡◌, ℕ, suc, zero, ◌-◌, ◌≤◌, ℤ, List, [], ◌∷◌, ◌++◌, length, ap, ◌∙◌, arith}
use Rattle.std.specs.Prelude.{slice_get}
use Rattle.spec_refutation.specs.Derivation.{clause_numbered}

-- the clause of a number is that at the place before
pub numbered_at : (known : List (List ℤ)) (n p : ℕ) → 1 ≤ n → p ≡ n - 1
    → clause_numbered known n ≡ slice_get known p
numbered_at known zero p h e = absurd (omega arith)
numbered_at known (suc k) p h e = ap (slice_get known) (omega arith)

-- past the first list the place is in the second
pub slice_get-append_right : {X : Type 0} (xs ys : List X) (p : ℕ) → length xs ≤ p
    → slice_get (xs ++ ys) p ≡ slice_get ys (p - length xs)
slice_get-append_right [] ys p h = ap (slice_get ys) (omega arith)
slice_get-append_right (x ∷ xs) ys zero h = absurd (omega arith)
slice_get-append_right (x ∷ xs) ys (suc p) h = slice_get-append_right xs ys p (omega arith) ∙ ap (slice_get ys) (omega arith)
