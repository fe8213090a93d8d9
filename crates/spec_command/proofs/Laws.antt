-- What is known of a command, and of the place at which words are refused.
use Rattle.std.proofs.Common.{◌≡◌, ℕ, zero, suc, ◌+◌, ◌<◌, ◌≤◌, Bool, true, false, cond, List, length, Some, refl, subst, inl, inr, arith}
use Rattle.std.proofs.lemmas.Bool.{cases_lt}
use Rattle.std.specs.List.{find, range_with_len}
use Rattle.spec_command.specs.Words.{is_bad_at, first_bad}

-- the first place at which a test passes, from `start` on
pub record IsFirst (test : ℕ → Bool) (start end place : ℕ) : Type 0 where
  pub from : start ≤ place
  pub within : place < end
  pub here : test place ≡ true
  pub before : (k : ℕ) → start ≤ k → k < place → test k ≡ false

-- at the first place, and at a later one where the first does not pass
first_here : (test : ℕ → Bool) (start n : ℕ) → test start ≡ true → IsFirst test start (start + suc n) start
first_here test start n e = record { from = omega arith; within = omega arith; here = e; before = λ k low high. absurd (omega arith) }

first_later : (test : ℕ → Bool) (start n place : ℕ) → test start ≡ false → IsFirst test (start + 1) ((start + 1) + n) place → IsFirst test start (start + suc n) place
first_later test start n place e later = record {
  from = omega (arith, later.from);
  within = omega (arith, later.within);
  here = later.here;
  before = λ k low high. elim (cases_lt start k) [ inl above ↦ later.before k (omega arith) high | inr up ↦ (let same : start ≡ k = omega arith in rw (← same) e) ];
}

found_is : (test : ℕ → Bool) (start count place : ℕ) → find test (range_with_len start count) ≡ Some place → IsFirst test start (start + count) place
found_is test start zero place h = absurd cc
found_is test start (suc n) place h = go (test start) refl h (found_is test (start + 1) n place)
  where
    go : (b : Bool) → test start ≡ b → cond b (Some start) (find test (range_with_len (start + 1) n)) ≡ Some place
        → (find test (range_with_len (start + 1) n) ≡ Some place → IsFirst test (start + 1) ((start + 1) + n) place) → IsFirst test start (start + suc n) place
    go true e h later = let same : start ≡ place = cc in subst (IsFirst test start (start + suc n)) same (first_here test start n e)
    go false e h later = first_later test start n place e (later h)

-- the first bad word behind a command is bad, and each word before it is good
pub first_bad_is : (keys words : List (List ℕ)) (place : ℕ) → first_bad keys words ≡ Some place → IsFirst (is_bad_at keys words) 0 (length words) place
first_bad_is keys words place h = let e : 0 + length words ≡ length words = omega arith in subst (λ end. IsFirst (is_bad_at keys words) 0 end place) e (found_is (is_bad_at keys words) 0 (length words) place h)
