-- The candidates are the leaves whose verdict is not No, in order.
use Rattle.std.proofs.Common.{◌≡◌, ◌≢◌, ℕ, zero, suc, ◌+◌, ◌<◌, List, [], ◌∷◌, length, refl, ap, subst, arith}
use Rattle.std.specs.Prelude.{slice_index_or, AllPairs, Contains}
use Rattle.std.specs.List.{AllByRecursion}
use Rattle.std.proofs.lemmas.List.Elements.{All-from_recursion}
use Rattle.std.proofs.lemmas.List.Kept.{AllPairs-cons}
use Rattle.spec_expressions.specs.Truth.{Truth, Yes, No, Open}
use Rattle.spec_expressions.specs.Scope.{Configuration}
use Rattle.spec_instructions.specs.Tree.{Own}
use Rattle.spec_decode.specs.Verdict.{verdict}
use Rattle.spec_decode.specs.Found.{Candidate, with_leaf, found_from, found, FoundIsExact}

module _ (g : Configuration) (w : ℕ) where
  -- a candidate among leaves of which the first has number j
  record IsCandidate (j : ℕ) (paths : List (List Own)) (c : Candidate) : Type 0 where
    m : ℕ
    number : c.leaf ≡ j + m
    within : m < length paths
    is : verdict (slice_index_or paths m []) g w ≡ c.verdict
    some : c.verdict ≢ No

  -- ---- each

  later : (j : ℕ) (path : List Own) (paths : List (List Own)) (c : Candidate) → IsCandidate (j + 1) paths c → IsCandidate j (path ∷ paths) c
  later j path paths c h = record { m = suc h.m; number = omega (arith, h.number); within = omega (arith, h.within); is = h.is; some = h.some }

  all_later : (j : ℕ) (path : List Own) (paths : List (List Own)) (cs : List Candidate) → AllByRecursion (IsCandidate (j + 1) paths) cs → AllByRecursion (IsCandidate j (path ∷ paths)) cs
  all_later j path paths [] h = tt
  all_later j path paths (c ∷ cs) h = (later j path paths c h.0, all_later j path paths cs h.1)

  each_from : (j : ℕ) (paths : List (List Own)) → AllByRecursion (IsCandidate j paths) (found_from j paths g w)
  each_from j [] = tt
  each_from j (path ∷ paths) = go (verdict path g w) refl (all_later j path paths (found_from (j + 1) paths g w) (each_from (j + 1) paths))
    where
      go : (t : Truth) → verdict path g w ≡ t → AllByRecursion (IsCandidate j (path ∷ paths)) (found_from (j + 1) paths g w) → AllByRecursion (IsCandidate j (path ∷ paths)) (with_leaf j t (found_from (j + 1) paths g w))
      go Yes e rest = (record { m = 0; number = omega arith; within = omega arith; is = e; some = λ no. absurd cc }, rest)
      go No e rest = rest
      go Open e rest = (record { m = 0; number = omega arith; within = omega arith; is = e; some = λ no. absurd cc }, rest)

  -- ---- every

  there : (x y : Candidate) (cs : List Candidate) → Contains cs x → Contains (y ∷ cs) x
  there x y cs h = (suc h.0, omega (arith, h.1), h.2)

  behind : (j : ℕ) (t : Truth) (x : Candidate) (cs : List Candidate) → Contains cs x → Contains (with_leaf j t cs) x
  behind j Yes x cs h = there x _ cs h
  behind j No x cs h = h
  behind j Open x cs h = there x _ cs h

  in_front : (j n : ℕ) (t : Truth) (cs : List Candidate) → t ≢ No → j ≡ n → Contains (with_leaf j t cs) (record { leaf = n; verdict = t })
  in_front j n Yes cs some e = (0, omega arith, ap (λ k. record { leaf = k; verdict = Yes }) e)
  in_front j n No cs some e = absurd (some refl)
  in_front j n Open cs some e = (0, omega arith, ap (λ k. record { leaf = k; verdict = Open }) e)

  every_from : (j m : ℕ) (paths : List (List Own)) → m < length paths → verdict (slice_index_or paths m []) g w ≢ No
      → (n : ℕ) → j + m ≡ n → Contains (found_from j paths g w) (record { leaf = n; verdict = verdict (slice_index_or paths m []) g w })
  every_from j m [] lt some n e = absurd (omega arith)
  every_from j zero (path ∷ paths) lt some n e = in_front j n (verdict path g w) (found_from (j + 1) paths g w) some (omega (arith, e))
  every_from j (suc m) (path ∷ paths) lt some n e = behind j (verdict path g w) _ (found_from (j + 1) paths g w) (every_from (j + 1) m paths (omega arith) some n (omega (arith, e)))

  -- ---- order

  abbrev Before : Candidate → Candidate → Type 0
  Before first second = first.leaf < second.leaf

  all_behind : (j : ℕ) (paths : List (List Own)) (t : Truth) (cs : List Candidate) → AllByRecursion (IsCandidate (j + 1) paths) cs → AllByRecursion (Before (record { leaf = j; verdict = t })) cs
  all_behind j paths t [] h = tt
  all_behind j paths t (c ∷ cs) h = (omega (arith, h.0.number), all_behind j paths t cs h.1)

  order_from : (j : ℕ) (paths : List (List Own)) → AllPairs Before (found_from j paths g w)
  order_from j [] = λ i k d lt within. absurd (omega arith)
  order_from j (path ∷ paths) = go (verdict path g w) (order_from (j + 1) paths) (each_from (j + 1) paths)
    where
      put : (t : Truth) → AllPairs Before (found_from (j + 1) paths g w) → AllByRecursion (IsCandidate (j + 1) paths) (found_from (j + 1) paths g w) → AllPairs Before (record { leaf = j; verdict = t } ∷ found_from (j + 1) paths g w)
      put t rest each = AllPairs-cons Before _ _ (All-from_recursion _ _ (all_behind j paths t _ each)) rest

      go : (t : Truth) → AllPairs Before (found_from (j + 1) paths g w) → AllByRecursion (IsCandidate (j + 1) paths) (found_from (j + 1) paths g w) → AllPairs Before (with_leaf j t (found_from (j + 1) paths g w))
      go Yes rest each = put Yes rest each
      go No rest each = rest
      go Open rest each = put Open rest each

  abbrev IsOne : List (List Own) → Candidate → Type 0
  IsOne paths c = (c.leaf < length paths) × (verdict (slice_index_or paths c.leaf []) g w ≡ c.verdict) × (c.verdict ≢ No)

  is_one : (paths : List (List Own)) (c : Candidate) → IsCandidate 0 paths c → IsOne paths c
  is_one paths c h = let e : h.m ≡ c.leaf = omega (arith, h.number) in (omega (arith, h.within, e), subst (λ k. verdict (slice_index_or paths k []) g w ≡ c.verdict) e h.is, h.some)

  ones : (paths : List (List Own)) (cs : List Candidate) → AllByRecursion (IsCandidate 0 paths) cs → AllByRecursion (IsOne paths) cs
  ones paths [] h = tt
  ones paths (c ∷ cs) h = (is_one paths c h.0, ones paths cs h.1)

pub found_is_exact : FoundIsExact
found_is_exact paths g w = record {
  each = All-from_recursion _ _ (ones g w paths (found paths g w) (each_from g w 0 paths));
  every = λ k lt some. every_from g w 0 k paths lt some k (omega arith);
  order = order_from g w 0 paths;
}
