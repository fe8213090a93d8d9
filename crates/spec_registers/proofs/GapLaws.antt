-- The gaps of a fieldset are the bits that are not covered.
use Rattle.std.proofs.Common.{◌≡◌, ◌∙◌, sym, ap, refl, subst, ℕ, zero, suc, ◌+◌, ◌-◌, ◌<◌, ◌≤◌, List, [], ◌∷◌, ◌++◌, map, filter, reverse, Bool, true, false, not, cond, arith, ◌⊎◌, inl, inr}
use Rattle.std.specs.Prelude.{◌==◌, nat_le, nat_lt}
use Rattle.std.specs.List.{range_with_len, prefix_len, AllByRecursion}
use Rattle.std.proofs.lemmas.Bool.{ltb-true, leb-true, lt-ltb, le-leb, eqb-true, and_parts, and_from, or_cases, or_left, or_right, both_ways, not_from_true, cases_Bool, cases_lt, cases_eq, true≢false}
use Rattle.std.proofs.lemmas.List.{reverse-append}
use Rattle.std.proofs.lemmas.List.Elements.{filter-append}
use Rattle.std.proofs.lemmas.List.FromFn.{length-range_with_len, get_or-range_with_len}
use Rattle.std.proofs.lemmas.List.Sums.{prefix_len-le-length, prefix_len_passes, prefix_len_stops}
use Rattle.std.proofs.lemmas.List.Folds.{length-prefix_len}
use Rattle.spec_instructions.specs.Encodeset.{Range}
use Rattle.spec_registers.specs.Gaps.{covers, is_covered, is_gap, begins_gap, gap_from, gaps_below, gaps, AreApart, IsWithin, AreGaps}

-- ---- covering

pub covers-from : (start width i : ℕ) → covers start width i ≡ true → (start ≤ i) × (i < start + width)
covers-from start width i h =
    let parts = and_parts (nat_le start i) (nat_lt i (start + width)) h in
    (leb-true start i parts.0, ltb-true i (start + width) parts.1)

pub covers-to : (start width i : ℕ) → start ≤ i → i < start + width → covers start width i ≡ true
covers-to start width i low high = and_from (nat_le start i) (nat_lt i (start + width)) (le-leb start i low) (lt-ltb i (start + width) high)

-- ---- runs of bits that pass a test

abbrev run : (ℕ → Bool) → ℕ → ℕ → ℕ
run test i k = prefix_len test (range_with_len i k)

run-le : (test : ℕ → Bool) (i k : ℕ) → run test i k ≤ k
run-le test i k = omega (arith, prefix_len-le-length test (range_with_len i k), length-range_with_len i k)

run-passes : (test : ℕ → Bool) (i k j : ℕ) → j < run test i k → test (i + j) ≡ true
run-passes test i k j h =
    let below : j < k = omega (arith, h, run-le test i k) in
    ap test (sym (get_or-range_with_len i k j 0 below)) ∙ prefix_len_passes test (range_with_len i k) j 0 h

run-stops : (test : ℕ → Bool) (i k : ℕ) → run test i k < k → test (i + run test i k) ≡ false
run-stops test i k h =
    ap test (sym (get_or-range_with_len i k (run test i k) 0 h)) ∙ prefix_len_stops test (range_with_len i k) 0 (omega (arith, h, length-range_with_len i k))

-- a run goes on as long as all bits pass
run-reaches : (test : ℕ → Bool) (i k j : ℕ) → j < k → ((m : ℕ) → m ≤ j → test (i + m) ≡ true) → j < run test i k
run-reaches test i k j below all = go (cases_lt j (run test i k))
  where
    go : (j < run test i k) ⊎ (run test i k ≤ j) → j < run test i k
    go (inl h) = h
    go (inr h) = absurd (both_ways (test (i + run test i k)) (run-stops test i k (omega (arith, h, below))) (all (run test i k) h))

-- ---- the gaps that begin below a bit

range-more : (a n : ℕ) → range_with_len a (suc n) ≡ range_with_len a n ++ (a + n) ∷ []
range-more a zero = ap (λ x. x ∷ []) (omega arith)
range-more a (suc n) =
    let last : (a + 1) + n ≡ a + suc n = omega arith in
    ap (λ xs. a ∷ xs) (range-more (a + 1) n ∙ ap (λ x. range_with_len (a + 1) n ++ x ∷ []) last)

module _ (bits : ℕ) (test : ℕ → Bool) where
  -- those below the next bit: its own, where one begins there, before the others
  pub gaps_below-next : (n : ℕ) → gaps_below bits test (suc n) ≡ cond (begins_gap test n) (gap_from bits test n ∷ gaps_below bits test n) (gaps_below bits test n)
  gaps_below-next n =
      ap (λ xs. map (gap_from bits test) (reverse (filter (begins_gap test) xs))) (range-more 0 n ∙ ap (λ x. range_with_len 0 n ++ x ∷ []) (omega arith))
      ∙ ap (λ xs. map (gap_from bits test) (reverse xs)) (filter-append (begins_gap test) (range_with_len 0 n) (n ∷ []))
      ∙ go (begins_gap test n)
    where
      go : (b : Bool)
          → map (gap_from bits test) (reverse (filter (begins_gap test) (range_with_len 0 n) ++ cond b (n ∷ []) []))
          ≡ cond b (gap_from bits test n ∷ gaps_below bits test n) (gaps_below bits test n)
      go true = ap (map (gap_from bits test)) (reverse-append (filter (begins_gap test) (range_with_len 0 n)) (n ∷ []))
      go false = ap (map (gap_from bits test)) (reverse-append (filter (begins_gap test) (range_with_len 0 n)) [])

  -- ---- one gap

  pub width_is : (b : ℕ) → (gap_from bits test b).width ≡ run (is_gap test) b (bits - b)
  width_is b = length-prefix_len (is_gap test) (range_with_len b (bits - b))

  -- a gap that begins at a bit has bits, and ends within the fieldset
  gap_within : (b : ℕ) → b < bits → begins_gap test b ≡ true → IsWithin bits (gap_from bits test b)
  gap_within b below begins = record {
    some = omega (arith, width_is b, run-reaches (is_gap test) b (bits - b) 0 (omega (arith, below)) (λ m h. ap (is_gap test) (omega (arith, h)) ∙ (and_parts (is_gap test b) _ begins).0));
    fits = omega (arith, width_is b, run-le (is_gap test) b (bits - b), below);
  }

  -- each bit of it is one that no range covers
  pub gap_bits : (b i : ℕ) → covers b (gap_from bits test b).width i ≡ true → is_gap test i ≡ true
  gap_bits b i h =
      let at = covers-from b (gap_from bits test b).width i h in
      let back : b + (i - b) ≡ i = omega (arith, at.0) in
      ap (is_gap test) (sym back) ∙ run-passes (is_gap test) b (bits - b) (i - b) (omega (arith, at.0, at.1, width_is b))

  -- from one bit to another all are such bits
  record AreFree (b i : ℕ) : Type 0 where
    from : b ≤ i
    begins : begins_gap test b ≡ true
    all : (m : ℕ) → b ≤ m → m ≤ i → is_gap test m ≡ true

  -- below a bit that no range covers there is one at which its gap begins
  begin_of : (i : ℕ) → is_gap test i ≡ true → (b : ℕ) × AreFree b i
  begin_of zero h = (
    0,
    record {
      from = omega arith;
      begins = and_from (is_gap test 0) true h refl;
      all = λ m low high. ap (is_gap test) (omega (arith, high)) ∙ h;
    },
  )
  begin_of (suc i) h = go (begin_of i) (cases_Bool (is_gap test i))
    where
      at : (m : ℕ) → m ≤ suc i → (m ≤ i) ⊎ (m ≡ suc i)
      at m high = flip (cases_lt i m)
        where
          flip : (i < m) ⊎ (m ≤ i) → (m ≤ i) ⊎ (m ≡ suc i)
          flip (inl more) = inr (omega (arith, more, high))
          flip (inr less) = inl less

      each : (b m : ℕ) → AreFree b i → b ≤ m → (m ≤ i) ⊎ (m ≡ suc i) → is_gap test m ≡ true
      each b m free low (inl less) = free.all m low less
      each b m free low (inr same) = ap (is_gap test) same ∙ h

      longer : (b : ℕ) → AreFree b i → AreFree b (suc i)
      longer b free = record {
        from = omega (arith, free.from);
        begins = free.begins;
        all = λ m low high. each b m free low (at m high);
      }

      covered_is : (b : Bool) → not b ≡ false → b ≡ true
      covered_is true e = refl
      covered_is false e = absurd (true≢false e)

      go : (is_gap test i ≡ true → (b : ℕ) × AreFree b i) → (is_gap test i ≡ true) ⊎ (is_gap test i ≡ false) → (b : ℕ) × AreFree b (suc i)
      go before (inl below) = let found = before below in (found.0, longer found.0 found.1)
      go before (inr covered) = (
        suc i,
        record {
          from = omega arith;
          begins = and_from (is_gap test (suc i)) _ h (or_right (suc i == 0) (test (suc i - 1)) (ap (test) (omega arith) ∙ covered_is (test i) covered));
          all = λ m low high. ap (is_gap test) (omega (arith, low, high)) ∙ h;
        },
      )

  -- ---- all gaps below a bit

  starts_below : (n : ℕ) → n ≤ bits → AllByRecursion (λ r. (r.start < n) × IsWithin bits r) (gaps_below bits test n)
  starts_below zero few = tt
  starts_below (suc n) few = subst (AllByRecursion (λ r. (r.start < suc n) × IsWithin bits r)) (sym (gaps_below-next n)) (go (begins_gap test n) refl (later (gaps_below bits test n) (starts_below n (omega (arith, few)))))
    where
      later : (rs : List Range) → AllByRecursion (λ r. (r.start < n) × IsWithin bits r) rs → AllByRecursion (λ r. (r.start < suc n) × IsWithin bits r) rs
      later [] h = tt
      later (r ∷ rs) h = ((omega (arith, h.0.0), h.0.1), later rs h.1)

      go : (b : Bool) → begins_gap test n ≡ b → AllByRecursion (λ r. (r.start < suc n) × IsWithin bits r) (gaps_below bits test n) → AllByRecursion (λ r. (r.start < suc n) × IsWithin bits r) (cond b (gap_from bits test n ∷ gaps_below bits test n) (gaps_below bits test n))
      go true e others = ((omega arith, gap_within n (omega (arith, few)) e), others)
      go false e others = others

  all_within : (n : ℕ) (rs : List Range) → AllByRecursion (λ r. (r.start < n) × IsWithin bits r) rs → AllByRecursion (IsWithin bits) rs
  all_within n [] h = tt
  all_within n (r ∷ rs) h = (h.0.1, all_within n rs h.1)

  -- a gap that begins below bit n, where one begins too, ends before it
  below_begin : (b n : ℕ) → b < n → n ≤ bits → begins_gap test n ≡ true → b + (gap_from bits test b).width < n
  below_begin b n less few begins = go (cases_lt (b + (gap_from bits test b).width) n)
    where
      covered : test (n - 1) ≡ true
      covered = cases (or_cases (n == 0) (test (n - 1)) (and_parts (is_gap test n) _ begins).1)
        where
          cases : ((n == 0) ≡ true) ⊎ (test (n - 1) ≡ true) → test (n - 1) ≡ true
          cases (inl zero_is) = absurd (omega (arith, less, eqb-true n 0 zero_is))
          cases (inr h) = h

      go : (b + (gap_from bits test b).width < n) ⊎ (n ≤ b + (gap_from bits test b).width) → b + (gap_from bits test b).width < n
      go (inl h) = h
      go (inr h) = absurd (both_ways (is_gap test (n - 1)) (not_from_true (test (n - 1)) covered)
          (gap_bits b (n - 1) (covers-to b (gap_from bits test b).width (n - 1) (omega (arith, less)) (omega (arith, less, h)))))

  -- all gaps below a bit at which one begins end before it
  all_below_begin : (n m : ℕ) → m ≤ n → n ≤ bits → begins_gap test n ≡ true → AllByRecursion (λ lower. lower.start + lower.width < n) (gaps_below bits test m)
  all_below_begin n zero less few begins = tt
  all_below_begin n (suc m) less few begins = subst (AllByRecursion (λ lower. lower.start + lower.width < n)) (sym (gaps_below-next m)) (go (begins_gap test m) (all_below_begin n m (omega (arith, less)) few begins))
    where
      go : (b : Bool) → AllByRecursion (λ lower. lower.start + lower.width < n) (gaps_below bits test m) → AllByRecursion (λ lower. lower.start + lower.width < n) (cond b (gap_from bits test m ∷ gaps_below bits test m) (gaps_below bits test m))
      go true others = (below_begin m n (omega (arith, less)) few begins, others)
      go false others = others

  apart_below : (n : ℕ) → n ≤ bits → AreApart (gaps_below bits test n)
  apart_below zero few = tt
  apart_below (suc n) few = subst AreApart (sym (gaps_below-next n)) (go (begins_gap test n) refl (apart_below n (omega (arith, few))))
    where
      go : (b : Bool) → begins_gap test n ≡ b → AreApart (gaps_below bits test n) → AreApart (cond b (gap_from bits test n ∷ gaps_below bits test n) (gaps_below bits test n))
      go true e others = (all_below_begin n n (omega arith) (omega (arith, few)) e, others)
      go false e others = others

  -- a bit of such a gap is covered by no range
  only_gaps : (n i : ℕ) → is_covered (gaps_below bits test n) i ≡ true → is_gap test i ≡ true
  only_gaps zero i h = absurd (true≢false (sym h))
  only_gaps (suc n) i h = go (only_gaps n i) (begins_gap test n) (sym (ap (λ rs. is_covered rs i) (gaps_below-next n)) ∙ h)
    where
      cases : (is_covered (gaps_below bits test n) i ≡ true → is_gap test i ≡ true) → (covers n (gap_from bits test n).width i ≡ true) ⊎ (is_covered (gaps_below bits test n) i ≡ true) → is_gap test i ≡ true
      cases before (inl own) = gap_bits n i own
      cases before (inr other) = before other

      go : (is_covered (gaps_below bits test n) i ≡ true → is_gap test i ≡ true) → (b : Bool) → is_covered (cond b (gap_from bits test n ∷ gaps_below bits test n) (gaps_below bits test n)) i ≡ true → is_gap test i ≡ true
      go before true e = cases before (or_cases (covers n (gap_from bits test n).width i) (is_covered (gaps_below bits test n) i) e)
      go before false e = before e

  -- the gap that begins at a bit stands among those below a higher bit
  stands_among : (n b i : ℕ) → b < n → begins_gap test b ≡ true → covers b (gap_from bits test b).width i ≡ true → is_covered (gaps_below bits test n) i ≡ true
  stands_among zero b i less begins h = absurd (omega (arith, less))
  stands_among (suc n) b i less begins h = ap (λ rs. is_covered rs i) (gaps_below-next n) ∙ go (λ more. stands_among n b i more begins h) (cases_eq b n)
    where
      own : (begins_gap test n ≡ true) → covers n (gap_from bits test n).width i ≡ true
          → is_covered (cond (begins_gap test n) (gap_from bits test n ∷ gaps_below bits test n) (gaps_below bits test n)) i ≡ true
      own e c = ap (λ t. is_covered (cond t (gap_from bits test n ∷ gaps_below bits test n) (gaps_below bits test n)) i) e ∙ or_left (covers n (gap_from bits test n).width i) _ c

      other : (t : Bool) → is_covered (gaps_below bits test n) i ≡ true → is_covered (cond t (gap_from bits test n ∷ gaps_below bits test n) (gaps_below bits test n)) i ≡ true
      other true e = or_right (covers n (gap_from bits test n).width i) _ e
      other false e = e

      go : (b < n → is_covered (gaps_below bits test n) i ≡ true) → (b ≡ n) ⊎ (b ≡ n → ⊥) → is_covered (cond (begins_gap test n) (gap_from bits test n ∷ gaps_below bits test n) (gaps_below bits test n)) i ≡ true
      go before (inl same) = own (ap (begins_gap test) (sym same) ∙ begins) (ap (λ x. covers x (gap_from bits test x).width i) (sym same) ∙ h)
      go before (inr differ) = other (begins_gap test n) (before (omega (arith, less, differ)))

  all_gaps : (i : ℕ) → i < bits → is_gap test i ≡ true → is_covered (gaps_below bits test bits) i ≡ true
  all_gaps i below h =
      let found = begin_of i h in
      let b = found.0 in
      let free = found.1 in
      stands_among bits b i (omega (arith, free.from, below)) free.begins
      (covers-to b (gap_from bits test b).width i free.from (omega (
        arith,
        free.from,
        width_is b,
        run-reaches (is_gap test) b (bits - b) (i - b) (omega (arith, free.from, below)) (λ m le. free.all (b + m) (omega arith) (omega (arith, le, free.from))),
      )))

pub gaps_are_gaps : (bits : ℕ) (test : ℕ → Bool) → AreGaps bits test (gaps bits test)
gaps_are_gaps bits test = record {
  exact = λ i below. same (is_covered (gaps bits test) i) (is_gap test i) (only_gaps bits test bits i) (all_gaps bits test i below);
  within = all_within bits test bits (gaps bits test) (starts_below bits test bits (omega arith));
  apart = apart_below bits test bits (omega arith);
}
  where
    same : (a b : Bool) → (a ≡ true → b ≡ true) → (b ≡ true → a ≡ true) → a ≡ b
    same true b to from = sym (to refl)
    same false true to from = from refl
    same false false to from = refl
