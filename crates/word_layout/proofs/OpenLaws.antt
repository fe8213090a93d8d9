-- A mask test says whether some bit of a field is not fixed.
use Rattle.std.proofs.Common.{◌≡◌, ◌≢◌, ◌∙◌, sym, ap, refl, ℕ, zero, suc, ◌+◌, ◌-◌, ◌^◌, ◌<◌, ◌≤◌, min, bit_and, Bool, true, false, not, ◌==◌, cond, Some, None, arith, ◌⊎◌, inl, inr}
use Rattle.std.specs.Prelude.{is_none}
use Rattle.std.specs.Int.{w32, bit_not}
use Rattle.std.specs.List.{list_any, range_with_len}
use Rattle.std.proofs.lemmas.Bool.{cases_eq, cases_lt, or_cases, or_parts, eq-eqb, ne_eqb}
use Rattle.std.proofs.lemmas.Nat.{and_le_r}
use Rattle.std.proofs.lemmas.Nat.Bits.{bit_at-lt, bit_at-zero, bit_at_and, bit_at_not, same_from_bits_below}
use Rattle.spec_bits.specs.Bits.{bit_of}
use Rattle.spec_encoding.specs.Parts.{covers}
use Rattle.spec_encoding.specs.PathLayout.{is_open}
use Rattle.word_layout.specs.Masks.{fixed_by, IsMask}
use Rattle.word_layout.proofs.MaskLaws.{bit-clear, bit-set, covers-inside, covers-below, covers-above}

pub range_true : (p : ℕ → Bool) (a n : ℕ) → list_any p (range_with_len a n) ≡ true → (k : ℕ) × (a ≤ k) × (k < a + n) × (p k ≡ true)
range_true p a zero h = absurd (cc)
range_true p a (suc n) h = go (range_true p (a + 1) n) (or_cases (p a) (list_any p (range_with_len (a + 1) n)) h)
  where
    go : (list_any p (range_with_len (a + 1) n) ≡ true → (k : ℕ) × (a + 1 ≤ k) × (k < a + 1 + n) × (p k ≡ true)) → (p a ≡ true) ⊎ (list_any p (range_with_len (a + 1) n) ≡ true) → (k : ℕ) × (a ≤ k) × (k < a + suc n) × (p k ≡ true)
    go further (inl here) = (a, omega arith, omega arith, here)
    go further (inr there) = let w = further there in (w.0, omega (arith, w.1), omega (arith, w.2), w.3)

pub range_false : (p : ℕ → Bool) (a n : ℕ) → list_any p (range_with_len a n) ≡ false → (k : ℕ) → a ≤ k → k < a + n → p k ≡ false
range_false p a zero h k from below = absurd (omega arith)
range_false p a (suc n) h k from below = go (range_false p (a + 1) n) (cases_eq k a)
  where
    parts : (p a ≡ false) × (list_any p (range_with_len (a + 1) n) ≡ false)
    parts = or_parts (p a) (list_any p (range_with_len (a + 1) n)) h

    go : (list_any p (range_with_len (a + 1) n) ≡ false → (k : ℕ) → a + 1 ≤ k → k < a + 1 + n → p k ≡ false) → (k ≡ a) ⊎ (k ≢ a) → p k ≡ false
    go further (inl here) = ap p here ∙ parts.0
    go further (inr apart) = further parts.1 k (omega arith) (omega arith)

module _ (mask value start width field : ℕ) (fits : mask < 2 ^ 32) (within : start + width ≤ 32) (is : IsMask field (covers start width)) where
  bits : (i : ℕ) → i < 32 → bit_of (bit_and field (bit_not w32 mask)) i ≡ min (bit_of field i) (1 - bit_of mask i)
  bits i below = bit_at_and field (bit_not w32 mask) i ∙ ap (λ b. min (bit_of field i) b) (bit_at_not w32 mask i fits below)

  inside : (k : ℕ) → k < width → bit_of (bit_and field (bit_not w32 mask)) (start + k) ≡ min 1 (1 - bit_of mask (start + k))
  inside k below =
      bits (start + k) (omega arith)
      ∙ ap (λ b. min b (1 - bit_of mask (start + k))) (bit-set field (start + k) (is (start + k) (omega arith) ∙ covers-inside start width (start + k) (omega arith) (omega arith)))

  none_of : (b v : ℕ) → b < 2 → is_none (cond (b == 0) None (Some v)) ≡ true → b ≡ 0
  none_of zero v s h = refl
  none_of (suc zero) v s h = absurd (cc)
  none_of (suc (suc b)) v s h = absurd (omega arith)

  zero_min : (x : ℕ) → min 0 x ≡ 0
  zero_min x = omega arith

  some_of : (b v : ℕ) → b < 2 → is_none (cond (b == 0) None (Some v)) ≡ false → b ≡ 1
  some_of zero v s h = absurd (cc)
  some_of (suc zero) v s h = refl
  some_of (suc (suc b)) v s h = absurd (omega arith)

  apart : bit_and field (bit_not w32 mask) ≡ 0 → (k : ℕ) → k < width → bit_of mask (start + k) ≡ 0 → ⊥
  apart none k below clear =
      let one = inside k below ∙ ap (λ b. min 1 (1 - b)) clear in
      let zero' = ap (λ m. bit_of m (start + k)) none ∙ bit_at-zero (start + k) in
      omega arith

  empty : ((k : ℕ) → k < width → bit_of mask (start + k) ≡ 1) → bit_and field (bit_not w32 mask) ≡ 0
  empty all = same_from_bits_below 32 (bit_and field (bit_not w32 mask)) 0 (omega (arith, and_le_r field (bit_not w32 mask))) (omega arith) (λ i below. each i below (cases_lt i start) (cases_lt i (start + width)) ∙ sym (bit_at-zero i))
    where
      outside : (i : ℕ) → i < 32 → covers start width i ≡ false → bit_of (bit_and field (bit_not w32 mask)) i ≡ 0
      outside i below none = bits i below ∙ ap (λ b. min b (1 - bit_of mask i)) (bit-clear field i (is i below ∙ none)) ∙ zero_min (1 - bit_of mask i)

      each : (i : ℕ) → i < 32 → (i < start) ⊎ (start ≤ i) → (i < start + width) ⊎ (start + width ≤ i) → bit_of (bit_and field (bit_not w32 mask)) i ≡ 0
      each i lt (inl low) s = outside i lt (covers-below start width i low)
      each i lt (inr from) (inr high) = outside i lt (covers-above start width i high)
      each i lt (inr from) (inl below) =
          let place : i ≡ start + (i - start) = omega arith in
          ap (bit_of (bit_and field (bit_not w32 mask))) place ∙ inside (i - start) (omega arith) ∙ ap (λ b. min 1 (1 - b)) (all (i - start) (omega arith))

  open_test : (test : Bool) → is_open (fixed_by mask value) start width ≡ test → not (bit_and field (bit_not w32 mask) == 0) ≡ test
  open_test true e =
      let w = range_true (λ k. is_none (fixed_by mask value (start + k))) 0 width e in
      ap not (ne_eqb (bit_and field (bit_not w32 mask)) 0 (λ none. apart none w.0 (omega (arith, w.2)) (none_of (bit_of mask (start + w.0)) (bit_of value (start + w.0)) (bit_at-lt mask (start + w.0)) w.3)))
  open_test false e =
      let all = range_false (λ k. is_none (fixed_by mask value (start + k))) 0 width e in
      ap not (eq-eqb (bit_and field (bit_not w32 mask)) 0 (empty (λ k below. some_of (bit_of mask (start + k)) (bit_of value (start + k)) (bit_at-lt mask (start + k)) (all k (omega arith) (omega (arith, below))))))

  pub open-test : not (bit_and field (4294967295 - mask) == 0) ≡ is_open (fixed_by mask value) start width
  open-test = open_test (is_open (fixed_by mask value) start width) refl
