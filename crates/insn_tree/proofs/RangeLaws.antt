-- Laws of the numbers below a count.
use Rattle.std.proofs.Common.{◌≡◌, ◌≢◌, ◌∙◌, sym, ap, refl, ℕ, zero, suc, ◌+◌, ◌<◌, Bool, true, false, cond, [], ◌∷◌, ◌++◌, length, filter, slice_get, Option, Some, None, All, arith, add-one, ◌⊎◌, inl, inr}
use Rattle.std.specs.Prelude.{find}
use Rattle.std.specs.List.{range_with_len}
use Rattle.std.specs.Option.{option_or}
use Rattle.std.proofs.lemmas.Bool.{cases_eq}
use Rattle.std.proofs.lemmas.List.{map-id}
use Rattle.std.proofs.lemmas.List.FromFn.{map-range_with_len_more, length-range_with_len, get_or-range_with_len}
use Rattle.std.proofs.lemmas.List.Elements.{filter-append}
use Rattle.std.proofs.lemmas.List.Folds.{find-append}
use Rattle.std.proofs.lemmas.Option.{slice_get_within}
use Rattle.mrs_names.proofs.ListLaws.{slice_get-append, slice_get-append_end}

pub range_more : (n : ℕ) → range_with_len 0 (n + 1) ≡ range_with_len 0 n ++ n ∷ []
range_more n =
    sym (map-id (range_with_len 0 (n + 1))) ∙ map-range_with_len_more (λ k. k) 0 n n (omega arith) ∙ ap (λ ks. ks ++ n ∷ []) (map-id (range_with_len 0 n))

range_suc : (n : ℕ) → range_with_len 0 (suc n) ≡ range_with_len 0 n ++ n ∷ []
range_suc n = ap (λ k. range_with_len 0 k) (sym (add-one n)) ∙ range_more n

-- each of them is below the count
pub range_below : (n : ℕ) → All (λ k. k < n) (range_with_len 0 n)
range_below n i d h =
    let within : i < n = omega (arith, h, length-range_with_len 0 n) in
    omega (arith, get_or-range_with_len 0 n i d within)

-- ---- those that pass a test

pub keeps_more : (p : ℕ → Bool) (n : ℕ) → filter p (range_with_len 0 (n + 1)) ≡ filter p (range_with_len 0 n) ++ cond (p n) (n ∷ []) []
keeps_more p n = ap (filter p) (range_more n) ∙ filter-append p (range_with_len 0 n) (n ∷ [])

pub keeps_yes : (p : ℕ → Bool) (n : ℕ) → p n ≡ true → filter p (range_with_len 0 (n + 1)) ≡ filter p (range_with_len 0 n) ++ n ∷ []
keeps_yes p n e = keeps_more p n ∙ ap (λ b. filter p (range_with_len 0 n) ++ cond b (n ∷ []) []) e

pub keeps_suc : (p : ℕ → Bool) (n : ℕ) → filter p (range_with_len 0 (suc n)) ≡ filter p (range_with_len 0 n) ++ cond (p n) (n ∷ []) []
keeps_suc p n = ap (filter p) (range_suc n) ∙ filter-append p (range_with_len 0 n) (n ∷ [])

-- the place of one that passes is how many pass before it
pub rank : (p : ℕ → Bool) (n k : ℕ) → k < n → p k ≡ true → slice_get (filter p (range_with_len 0 n)) (length (filter p (range_with_len 0 k))) ≡ Some k
rank p zero k below passes = absurd (omega arith)
rank p (suc n) k below passes = go (cases_eq k n) (λ b. rank p n k b passes)
  where
    go : (k ≡ n) ⊎ (k ≢ n) → (k < n → slice_get (filter p (range_with_len 0 n)) (length (filter p (range_with_len 0 k))) ≡ Some k)
        → slice_get (filter p (range_with_len 0 (suc n))) (length (filter p (range_with_len 0 k))) ≡ Some k
    go (inl same) before =
        let passes' : p n ≡ true = ap p (sym same) ∙ passes in
        ap (λ ks. slice_get ks (length (filter p (range_with_len 0 k)))) (keeps_suc p n ∙ ap (λ b. filter p (range_with_len 0 n) ++ cond b (n ∷ []) []) passes')
        ∙ ap (λ j. slice_get (filter p (range_with_len 0 n) ++ n ∷ []) (length (filter p (range_with_len 0 j)))) same
        ∙ slice_get-append_end (filter p (range_with_len 0 n)) n []
        ∙ ap Some (sym same)
    go (inr apart) before =
        let at = before (omega arith) in
        ap (λ ks. slice_get ks (length (filter p (range_with_len 0 k)))) (keeps_suc p n)
        ∙ slice_get-append (filter p (range_with_len 0 n)) (cond (p n) (n ∷ []) []) (length (filter p (range_with_len 0 k))) (slice_get_within (filter p (range_with_len 0 n)) (length (filter p (range_with_len 0 k))) k at)
        ∙ at

-- ---- the first that passes a test

find_suc : (p : ℕ → Bool) (n : ℕ) → find p (range_with_len 0 (suc n)) ≡ option_or (find p (range_with_len 0 n)) (cond (p n) (Some n) None)
find_suc p n = ap (find p) (range_suc n) ∙ find-append p (range_with_len 0 n) (n ∷ [])

pub find_more : (p : ℕ → Bool) (n : ℕ) → find p (range_with_len 0 (n + 1)) ≡ option_or (find p (range_with_len 0 n)) (cond (p n) (Some n) None)
find_more p n = ap (find p) (range_more n) ∙ find-append p (range_with_len 0 n) (n ∷ [])

pub find_below : (p : ℕ → Bool) (n k : ℕ) → find p (range_with_len 0 n) ≡ Some k → k < n
find_below p zero k h = absurd (cc)
find_below p (suc n) k h = go (find p (range_with_len 0 n)) refl (p n) (λ e. find_below p n k e) (sym (find_suc p n) ∙ h)
  where
    go : (o : Option ℕ) → find p (range_with_len 0 n) ≡ o → (b : Bool) → (find p (range_with_len 0 n) ≡ Some k → k < n) → option_or o (cond b (Some n) None) ≡ Some k → k < suc n
    go (Some j) e b before s = let low = before (e ∙ s) in omega arith
    go None e true before s = let same : n ≡ k = cc in omega arith
    go None e false before s = absurd (cc)

-- tests that agree find the same
pub find_same : (p q : ℕ → Bool) (n : ℕ) → ((k : ℕ) → k < n → p k ≡ q k) → find p (range_with_len 0 n) ≡ find q (range_with_len 0 n)
find_same p q zero same = refl
find_same p q (suc n) same =
    find_suc p n
    ∙ ap (λ o. option_or o (cond (p n) (Some n) None)) (find_same p q n (λ k below. same k (omega arith)))
    ∙ ap (λ b. option_or (find q (range_with_len 0 n)) (cond b (Some n) None)) (same n (omega arith))
    ∙ sym (find_suc q n)
