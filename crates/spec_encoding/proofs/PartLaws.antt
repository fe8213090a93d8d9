-- Laws of what parts give: a word has all slices exactly where it has each bit that a part gives.
use Rattle.std.proofs.Common.{◌≡◌, ◌∙◌, sym, ap, refl, ℕ, zero, suc, ◌+◌, ◌-◌, ◌^◌, ◌<◌, ◌≤◌, Bool, true, false, ◌==◌, List, [], ◌∷◌, All, arith, ◌⊎◌, inl, inr}
use Rattle.std.specs.List.{list_any}
use Rattle.std.proofs.lemmas.Bool.{and_parts, and_from, or_cases, or_left, or_right, or_parts, or_from, and_left, eqb-true, eq-eqb, leb-true, le-leb, ltb-true, lt-ltb}
use Rattle.std.proofs.lemmas.Nat.Bits.{bit_at-lt, same_from_bits_below}
use Rattle.std.proofs.lemmas.List.Elements.{All-nil, All-cons, All-head, All-tail}
use Rattle.spec_bits.specs.Bits.{bit_of, slice}
use Rattle.spec_bits.proofs.BitLaws.{bit_of-slice, slice-lt}
use Rattle.spec_encoding.specs.Parts.{Part, covers, gives, some_gives}

-- a bit that a part gives
pub record Given (i b : ℕ) (p : Part) : Type 0 where
  pub from : p.start ≤ i
  pub below : i < p.start + p.width
  pub bit : bit_of p.value (i - p.start) ≡ b

pub Given-from : (i b : ℕ) (p : Part) → gives i b p ≡ true → Given i b p
Given-from i b p h =
    let parts = and_parts (covers p.start p.width i) (bit_of p.value (i - p.start) == b) h in
    let place = and_parts _ _ parts.0 in
    record { from = leb-true p.start i place.0; below = ltb-true i (p.start + p.width) place.1; bit = eqb-true (bit_of p.value (i - p.start)) b parts.1 }

pub Given-to : (i b : ℕ) (p : Part) → Given i b p → gives i b p ≡ true
Given-to i b p h =
    and_from (covers p.start p.width i) (bit_of p.value (i - p.start) == b) (and_from _ _ (le-leb p.start i h.from) (lt-ltb i (p.start + p.width) h.below)) (eq-eqb (bit_of p.value (i - p.start)) b h.bit)

abbrev pub HasSlices : ℕ → List Part → Type 0
HasSlices w ps = All (λ p. slice w p.start p.width ≡ p.value) ps

abbrev pub AreWithin : List Part → Type 0
AreWithin ps = All (λ p. p.start + p.width ≤ 32) ps

abbrev pub AllFit : List Part → Type 0
AllFit ps = All (λ p. p.value < 2 ^ p.width) ps

abbrev pub HasGiven : ℕ → List Part → Type 0
HasGiven w ps = (i b : ℕ) → i < 32 → some_gives ps i b ≡ true → bit_of w i ≡ b

pub slice-given : (w : ℕ) (p : Part) → slice w p.start p.width ≡ p.value → (i b : ℕ) → Given i b p → bit_of w i ≡ b
slice-given w p same i b h =
    let place : p.start + (i - p.start) ≡ i = omega (arith, h.from) in
    ap (bit_of w) (sym place) ∙ sym (bit_of-slice w p.start p.width (i - p.start) (omega (arith, h.from, h.below))) ∙ ap (λ v. bit_of v (i - p.start)) same ∙ h.bit

-- a word with the slices has each bit that a part gives
pub slices-give : (w : ℕ) (ps : List Part) → HasSlices w ps → (i b : ℕ) → some_gives ps i b ≡ true → bit_of w i ≡ b
slices-give w [] all i b h = absurd (cc)
slices-give w (p ∷ ps) all i b h = go (slices-give w ps (All-tail (λ p. slice w p.start p.width ≡ p.value) p ps all) i b) (or_cases (gives i b p) (some_gives ps i b) h)
  where
    go : (some_gives ps i b ≡ true → bit_of w i ≡ b) → (gives i b p ≡ true) ⊎ (some_gives ps i b ≡ true) → bit_of w i ≡ b
    go further (inl here) = slice-given w p (All-head (λ p. slice w p.start p.width ≡ p.value) p ps all) i b (Given-from i b p here)
    go further (inr there) = further there

slice-from : (w : ℕ) (p : Part) → p.value < 2 ^ p.width → p.start + p.width ≤ 32 → ((i b : ℕ) → i < 32 → gives i b p ≡ true → bit_of w i ≡ b) → slice w p.start p.width ≡ p.value
slice-from w p fits within has = same_from_bits_below p.width (slice w p.start p.width) p.value (slice-lt w p.start p.width) fits each
  where
    each : (k : ℕ) → k < p.width → bit_of (slice w p.start p.width) k ≡ bit_of p.value k
    each k below =
        let place : p.start + k - p.start ≡ k = omega arith in
        bit_of-slice w p.start p.width k below
        ∙ has (p.start + k) (bit_of p.value k) (omega arith) (Given-to (p.start + k) (bit_of p.value k) p (record { from = omega arith; below = omega arith; bit = ap (bit_of p.value) place }))

-- and where the values fit, a word with these bits has the slices
pub slices-from : (w : ℕ) (ps : List Part) → AllFit ps → AreWithin ps → HasGiven w ps → HasSlices w ps
slices-from w [] fits within has = All-nil (λ p. slice w p.start p.width ≡ p.value)
slices-from w (p ∷ ps) fits within has =
    All-cons (λ p. slice w p.start p.width ≡ p.value) p ps
    (slice-from w p (All-head (λ p. p.value < 2 ^ p.width) p ps fits) (All-head (λ p. p.start + p.width ≤ 32) p ps within) (λ i b below h. has i b below (or_left (gives i b p) (some_gives ps i b) h)))
    (slices-from w ps (All-tail (λ p. p.value < 2 ^ p.width) p ps fits) (All-tail (λ p. p.start + p.width ≤ 32) p ps within) (λ i b below h. has i b below (or_right (gives i b p) (some_gives ps i b) h)))

-- a part covers bit i
abbrev pub some_cover : List Part → ℕ → Bool
some_cover ps i = list_any (λ p. covers p.start p.width i) ps

-- a bit that no part covers is given by none
pub uncovered : (ps : List Part) (i b : ℕ) → some_cover ps i ≡ false → some_gives ps i b ≡ false
uncovered [] i b h = refl
uncovered (p ∷ ps) i b h =
    let parts = or_parts (covers p.start p.width i) (some_cover ps i) h in
    or_from (gives i b p) (some_gives ps i b) (and_left (covers p.start p.width i) (bit_of p.value (i - p.start) == b) parts.0) (uncovered ps i b parts.1)

zero_or_one : (b : ℕ) → b < 2 → (b ≡ 0) ⊎ (b ≡ 1)
zero_or_one zero h = inl refl
zero_or_one (suc zero) h = inr refl
zero_or_one (suc (suc b)) h = absurd (omega arith)

-- one that a part covers is given 0 or 1
pub covered : (ps : List Part) (i : ℕ) → some_cover ps i ≡ true → (some_gives ps i 0 ≡ true) ⊎ (some_gives ps i 1 ≡ true)
covered [] i h = absurd (cc)
covered (p ∷ ps) i h = go (covered ps i) (or_cases (covers p.start p.width i) (some_cover ps i) h)
  where
    there : (some_gives ps i 0 ≡ true) ⊎ (some_gives ps i 1 ≡ true) → (some_gives (p ∷ ps) i 0 ≡ true) ⊎ (some_gives (p ∷ ps) i 1 ≡ true)
    there (inl e) = inl (or_right (gives i 0 p) (some_gives ps i 0) e)
    there (inr e) = inr (or_right (gives i 1 p) (some_gives ps i 1) e)

    here : covers p.start p.width i ≡ true → (bit_of p.value (i - p.start) ≡ 0) ⊎ (bit_of p.value (i - p.start) ≡ 1) → (some_gives (p ∷ ps) i 0 ≡ true) ⊎ (some_gives (p ∷ ps) i 1 ≡ true)
    here c (inl e) = inl (or_left (gives i 0 p) (some_gives ps i 0) (and_from (covers p.start p.width i) (bit_of p.value (i - p.start) == 0) c (eq-eqb (bit_of p.value (i - p.start)) 0 e)))
    here c (inr e) = inr (or_left (gives i 1 p) (some_gives ps i 1) (and_from (covers p.start p.width i) (bit_of p.value (i - p.start) == 1) c (eq-eqb (bit_of p.value (i - p.start)) 1 e)))

    go : (some_cover ps i ≡ true → (some_gives ps i 0 ≡ true) ⊎ (some_gives ps i 1 ≡ true)) → (covers p.start p.width i ≡ true) ⊎ (some_cover ps i ≡ true) → (some_gives (p ∷ ps) i 0 ≡ true) ⊎ (some_gives (p ∷ ps) i 1 ≡ true)
    go further (inl c) = here c (zero_or_one (bit_of p.value (i - p.start)) (bit_at-lt p.value (i - p.start)))
    go further (inr r) = there (further r)

-- a bit that is given is 0 or 1
pub given-lt : (ps : List Part) (i b : ℕ) → some_gives ps i b ≡ true → b < 2
given-lt [] i b h = absurd (cc)
given-lt (p ∷ ps) i b h = go (given-lt ps i b) (or_cases (gives i b p) (some_gives ps i b) h)
  where
    go : (some_gives ps i b ≡ true → b < 2) → (gives i b p ≡ true) ⊎ (some_gives ps i b ≡ true) → b < 2
    go further (inl here) = let bit = (Given-from i b p here).bit in omega (arith, bit, bit_at-lt p.value (i - p.start))
    go further (inr there) = further there
