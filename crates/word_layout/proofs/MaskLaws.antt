-- Laws of masks, bit by bit.
use Rattle.std.proofs.Common.{ltb, leb, ◌≡◌, ◌∙◌, sym, ap, refl, ℕ, zero, suc, ◌+◌, ◌-◌, ◌*◌, ◌/◌, ◌%◌, ◌^◌, ◌<◌, ◌≤◌, max, bit_or, bit_xor, Bool, true, false, ◌&&◌, ◌||◌, ◌==◌, Some, None, arith, add-zero, ◌⊎◌, inl, inr}
use Rattle.std.specs.Int.{leading_zeros, w32}
use Rattle.std.proofs.lemmas.Bool.{cases_lt, eqb-true, eq-eqb, and_from, and_left, and_right, le-leb, lt-leb, lt-ltb, le-ltb}
use Rattle.std.proofs.lemmas.Nat.{leading_top, pow_pos, shl_whole}
use Rattle.std.proofs.Math.Nat.{pow-suc}
use Rattle.std.proofs.lemmas.Nat.Bits.{bit_at-lt, bit_at-zero, bit_at_above, bit_at_cat_high, bit_at_cat_low, bit_at_or, bit_at_xor, bit_at_ones, ones_shr}
use Rattle.spec_bits.specs.Bits.{bit_of}
use Rattle.spec_encoding.specs.Parts.{Part, gives, covers, highest}
use Rattle.spec_encoding.proofs.BitLaws.{highest-none, highest-is}
use Rattle.word_layout.specs.Masks.{has_bit, IsMask}

pub highest-zero : highest (has_bit 0) 32 ≡ None
highest-zero = highest-none (has_bit 0) 32 (λ i _. ap (λ b. b == 1) (bit_at-zero i))

top_bit : (m j : ℕ) → 2 ^ j ≤ m → m < 2 ^ suc j → bit_of m j ≡ 1
top_bit m j low high =
    let split : m ≡ 1 * 2 ^ j + (m - 2 ^ j) = omega (arith, low) in
    let double : 2 ^ suc j ≡ 2 ^ j * 2 = pow-suc 2 j in
    let rest : m - 2 ^ j < 2 ^ j = omega (arith, low, high, double, pow_pos j) in
    let same : j - j ≡ 0 = omega arith in
    ap (λ x. bit_of x j) split ∙ bit_at_cat_high 1 j (m - 2 ^ j) j rest (omega arith) ∙ ap (bit_of 1) same

pub highest-leading : (m : ℕ) → 0 < m → m < 2 ^ 32 → highest (has_bit m) 32 ≡ Some (31 - leading_zeros w32 m)
highest-leading m some fits =
    let top = leading_top 32 m some fits in
    let place : top.0 ≡ 31 - leading_zeros w32 m = omega (arith, top.1) in
    highest-is (has_bit m) 32 top.0 (omega (arith, top.1)) (eq-eqb (bit_of m top.0) 1 (top_bit m top.0 top.2 top.3))
    (λ i above below. ap (λ b. b == 1) (bit_at_above m (suc top.0) i top.3 (omega (arith, above))))
    ∙ ap Some place

-- ---- a value at its place

module _ (n start width : ℕ) (fits : n < 2 ^ width) (within : start + width ≤ 32) where
  whole : n * 2 ^ start % 2 ^ 32 ≡ n * 2 ^ start
  whole = shl_whole n width start 32 fits (omega arith)

  pub placed-below : (i : ℕ) → i < start → bit_of (n * 2 ^ start % 2 ^ 32) i ≡ 0
  placed-below i below = ap (λ x. bit_of x i) (whole ∙ sym (add-zero (n * 2 ^ start))) ∙ bit_at_cat_low n start 0 i below ∙ bit_at-zero i

  pub placed-from : (i : ℕ) → start ≤ i → bit_of (n * 2 ^ start % 2 ^ 32) i ≡ bit_of n (i - start)
  placed-from i from = ap (λ x. bit_of x i) (whole ∙ sym (add-zero (n * 2 ^ start))) ∙ bit_at_cat_high n start 0 i (pow_pos start) from

  pub placed-above : (i : ℕ) → start + width ≤ i → bit_of (n * 2 ^ start % 2 ^ 32) i ≡ 0
  placed-above i above = placed-from i (omega arith) ∙ bit_at_above n width (i - start) fits (omega arith)

-- a value for `width` bits from bit `start` up
abbrev pub part : ℕ → ℕ → ℕ → Part
part start width value = record { start = start; width = width; value = value }

pub covers-inside : (start width i : ℕ) → start ≤ i → i < start + width → covers start width i ≡ true
covers-inside start width i from below = and_from _ _ (le-leb start i from) (lt-ltb i (start + width) below)

pub covers-below : (start width i : ℕ) → i < start → covers start width i ≡ false
covers-below start width i below = and_left _ _ (lt-leb start i below)

pub covers-above : (start width i : ℕ) → start + width ≤ i → covers start width i ≡ false
covers-above start width i above = and_right _ _ (le-ltb i (start + width) above)

gives-inside : (start width value i b : ℕ) → covers start width i ≡ true → gives i b (part start width value) ≡ (bit_of value (i - start) == b)
gives-inside start width value i b e = ap (λ c. c && bit_of value (i - start) == b) e

gives-outside : (start width value i b : ℕ) → covers start width i ≡ false → gives i b (part start width value) ≡ false
gives-outside start width value i b e = ap (λ c. c && bit_of value (i - start) == b) e

-- the ones of a run
pub run : (width : ℕ) → width ≤ 32 → 4294967295 / 2 ^ (32 - width) ≡ 2 ^ width - 1
run width fits =
    let back : 32 - (32 - width) ≡ width = omega arith in
    ones_shr 32 (32 - width) (omega arith) ∙ ap (λ k. 2 ^ k - 1) back

flip : (v : ℕ) → v < 2 → ((1 + v) % 2 == 1) ≡ (v == 0)
flip zero h = refl
flip (suc zero) h = refl
flip (suc (suc v)) h = absurd (omega arith)

either : (x y : ℕ) → x < 2 → y < 2 → (max x y == 1) ≡ (x == 1 || y == 1)
either zero zero hx hy = refl
either zero (suc zero) hx hy = refl
either (suc zero) zero hx hy = refl
either (suc zero) (suc zero) hx hy = refl
either (suc (suc x)) y hx hy = absurd (omega arith)
either zero (suc (suc y)) hx hy = absurd (omega arith)
either (suc zero) (suc (suc y)) hx hy = absurd (omega arith)

-- a bit of two masks together
pub or-test : (a b i : ℕ) → has_bit (bit_or a b) i ≡ (has_bit a i || has_bit b i)
or-test a b i = ap (λ x. x == 1) (bit_at_or a b i) ∙ either (bit_of a i) (bit_of b i) (bit_at-lt a i) (bit_at-lt b i)

or_same : (x y z : Bool) → y ≡ z → (x || y) ≡ (x || z)
or_same x y z e = ap (λ b. x || b) e

-- where bit i stands
sides : {P : Type 0} (start width i : ℕ) → (i < start → P) → (start ≤ i → i < start + width → P) → (start + width ≤ i → P) → P
sides {P} start width i low mid high = go (cases_lt i start) (cases_lt i (start + width))
  where
    go : (i < start) ⊎ (start ≤ i) → (i < start + width) ⊎ (start + width ≤ i) → P
    go (inl a) b = low a
    go (inr a) (inl b) = mid a b
    go (inr a) (inr b) = high b

-- the bits of a range
pub field-bits : (start width : ℕ) → start + width ≤ 32 → IsMask (4294967295 / 2 ^ (32 - width) * 2 ^ start % 4294967296) (covers start width)
field-bits start width within i below =
    ap (λ m. has_bit (m * 2 ^ start % 2 ^ 32) i) (run width (omega arith))
    ∙ sides start width i
    (λ low. ap (λ b. b == 1) (placed-below (2 ^ width - 1) start width ones_fit within i low) ∙ sym (covers-below start width i low))
    (λ from upto. ap (λ b. b == 1) (placed-from (2 ^ width - 1) start width ones_fit within i from ∙ bit_at_ones width (i - start) (omega arith)) ∙ sym (covers-inside start width i from upto))
    (λ high. ap (λ b. b == 1) (placed-above (2 ^ width - 1) start width ones_fit within i high) ∙ sym (covers-above start width i high))
  where
    ones_fit : 2 ^ width - 1 < 2 ^ width
    ones_fit = omega (arith, pow_pos width)

pub bit-clear : (m i : ℕ) → has_bit m i ≡ false → bit_of m i ≡ 0
bit-clear m i h = go (bit_of m i) (bit_at-lt m i) h
  where
    go : (b : ℕ) → b < 2 → (b == 1) ≡ false → b ≡ 0
    go zero lt e = refl
    go (suc zero) lt e = absurd (cc)
    go (suc (suc b)) lt e = absurd (omega arith)

pub bit-set : (m i : ℕ) → has_bit m i ≡ true → bit_of m i ≡ 1
bit-set m i h = eqb-true (bit_of m i) 1 h

module _ (start width value : ℕ) (fits : value < 2 ^ width) (within : start + width ≤ 32) where
  abbrev placed : ℕ
  placed = value * 2 ^ start % 2 ^ 32

  ones_bit : (i : ℕ) → has_bit placed i ≡ gives i 1 (part start width value)
  ones_bit i = sides start width i
      (λ low. ap (λ b. b == 1) (placed-below value start width fits within i low) ∙ sym (gives-outside start width value i 1 (covers-below start width i low)))
      (λ from below. ap (λ b. b == 1) (placed-from value start width fits within i from) ∙ sym (gives-inside start width value i 1 (covers-inside start width i from below)))
      (λ high. ap (λ b. b == 1) (placed-above value start width fits within i high) ∙ sym (gives-outside start width value i 1 (covers-above start width i high)))

  module _ (field : ℕ) (is : IsMask field (covers start width)) (i : ℕ) (in_word : i < 32) where
    outside : covers start width i ≡ false → bit_of placed i ≡ 0 → has_bit (bit_xor field placed) i ≡ gives i 0 (part start width value)
    outside apart low =
        ap (λ b. b == 1) (bit_at_xor field placed i)
        ∙ ap (λ m. (m + bit_of placed i) % 2 == 1) (bit-clear field i (is i in_word ∙ apart))
        ∙ ap (λ v. (0 + v) % 2 == 1) low
        ∙ sym (gives-outside start width value i 0 apart)

    inside : covers start width i ≡ true → start ≤ i → has_bit (bit_xor field placed) i ≡ gives i 0 (part start width value)
    inside here from =
        ap (λ b. b == 1) (bit_at_xor field placed i)
        ∙ ap (λ m. (m + bit_of placed i) % 2 == 1) (bit-set field i (is i in_word ∙ here))
        ∙ ap (λ v. (1 + v) % 2 == 1) (placed-from value start width fits within i from)
        ∙ flip (bit_of value (i - start)) (bit_at-lt value (i - start))
        ∙ sym (gives-inside start width value i 0 here)

    zeros_bit : has_bit (bit_xor field placed) i ≡ gives i 0 (part start width value)
    zeros_bit = sides start width i
        (λ low. outside (covers-below start width i low) (placed-below value start width fits within i low))
        (λ from below. inside (covers-inside start width i from below) from)
        (λ high. outside (covers-above start width i high) (placed-above value start width fits within i high))

  pub ones-with : (ones : ℕ) → IsMask (bit_or ones (value * 2 ^ start % 4294967296)) (λ i. has_bit ones i || gives i 1 (part start width value))
  ones-with ones i below =
      ap (λ b. b == 1) (bit_at_or ones placed i)
      ∙ either (bit_of ones i) (bit_of placed i) (bit_at-lt ones i) (bit_at-lt placed i)
      ∙ or_same (has_bit ones i) _ _ (ones_bit i)

  pub zeros-with : (zeros field : ℕ) → IsMask field (covers start width) → IsMask (bit_or zeros (bit_xor field (value * 2 ^ start % 4294967296))) (λ i. has_bit zeros i || gives i 0 (part start width value))
  zeros-with zeros field is i below =
      ap (λ b. b == 1) (bit_at_or zeros (bit_xor field placed) i)
      ∙ either (bit_of zeros i) (bit_of (bit_xor field placed) i) (bit_at-lt zeros i) (bit_at-lt (bit_xor field placed) i)
      ∙ or_same (has_bit zeros i) _ _ (zeros_bit field is i below)

-- ---- widths

above : (v width : ℕ) → ltb (2 ^ width - 1) v ≡ leb (2 ^ width) v
above v width = go (cases_lt v (2 ^ width))
  where
    go : (v < 2 ^ width) ⊎ (2 ^ width ≤ v) → ltb (2 ^ width - 1) v ≡ leb (2 ^ width) v
    go (inl low) = le-ltb (2 ^ width - 1) v (omega (arith, pow_pos width)) ∙ sym (lt-leb (2 ^ width) v low)
    go (inr high) = lt-ltb (2 ^ width - 1) v (omega (arith, pow_pos width)) ∙ sym (le-leb (2 ^ width) v high)

pub wide_test : (v width : ℕ) → width ≤ 32 → ltb (4294967295 / 2 ^ (32 - width)) v ≡ leb (2 ^ width) v
wide_test v width fits = ap (λ m. ltb m v) (run width fits) ∙ above v width
