-- Two masks and two values joined are the digits joined.
use Rattle.std.proofs.Common.{◌≡◌, ◌≢◌, ◌∙◌, sym, ap, refl, ℕ, zero, suc, ◌+◌, ◌%◌, ◌<◌, ◌≤◌, ◌^◌, min, max, bit_and, bit_or, bit_xor, ◌==◌, cond, List, ◌∷◌, Option, Some, None, option_map, option_and_then, arith, below_more}
use Rattle.std.proofs.lemmas.Nat.{and_le_r, or_lt, pow_pos}
use Rattle.std.proofs.lemmas.Nat.Bits.{bit_at_and, bit_at_or, bit_at_xor, bit_at-zero, same_from_bits, same_from_bits_below}
use Rattle.spec_bits.specs.Bits.{bit_of}
use Rattle.spec_bits.specs.Pattern.{Digit, Zero, One, Either, joined_digit, joined}
use Rattle.spec_bits.proofs.PatternLaws.{joined-cons}
use Rattle.bit_pattern.specs.Digits.{digit_at, digits_below}
use Rattle.bit_pattern.proofs.DigitLaws.{BitPair, free, fixed_0, fixed_1, BitPair-at}

-- the bits that both masks fix and that the values give differently, as the code has them; and one of these bits
abbrev pub clashes : ℕ → ℕ → ℕ → ℕ → ℕ
clashes mask value mask' value' = bit_and (bit_and (bit_xor value value') mask) mask'

abbrev pub clash : ℕ → ℕ → ℕ → ℕ → ℕ
clash m v m' v' = min (min ((v + v') % 2) m) m'

bit_of-clashes : (mask value mask' value' i : ℕ) → bit_of (clashes mask value mask' value') i ≡ clash (bit_of mask i) (bit_of value i) (bit_of mask' i) (bit_of value' i)
bit_of-clashes mask value mask' value' i =
    bit_at_and (bit_and (bit_xor value value') mask) mask' i
    ∙ ap (λ b. min b (bit_of mask' i)) (bit_at_and (bit_xor value value') mask i)
    ∙ ap (λ b. min (min b (bit_of mask i)) (bit_of mask' i)) (bit_at_xor value value' i)

-- the digit of one bit of the mask and one of the value
abbrev pub bit_digit : ℕ → ℕ → Digit
bit_digit m v = cond (m == 0) Either (cond (v == 0) Zero One)

-- two digits join where they do not clash, and only there
bits_join : (m v m' v' : ℕ) → BitPair m v → BitPair m' v' → clash m v m' v' ≡ 0 → joined_digit (bit_digit m v) (bit_digit m' v') ≡ Some (bit_digit (max m m') (max v v'))
bits_join m v m' v' free free clear = refl
bits_join m v m' v' free fixed_0 clear = refl
bits_join m v m' v' free fixed_1 clear = refl
bits_join m v m' v' fixed_0 free clear = refl
bits_join m v m' v' fixed_0 fixed_0 clear = refl
bits_join m v m' v' fixed_0 fixed_1 clear = absurd (omega arith)
bits_join m v m' v' fixed_1 free clear = refl
bits_join m v m' v' fixed_1 fixed_0 clear = absurd (omega arith)
bits_join m v m' v' fixed_1 fixed_1 clear = refl

bits_clear : (m v m' v' : ℕ) (d : Digit) → BitPair m v → BitPair m' v' → joined_digit (bit_digit m v) (bit_digit m' v') ≡ Some d → clash m v m' v' ≡ 0
bits_clear m v m' v' d free free h = refl
bits_clear m v m' v' d free fixed_0 h = refl
bits_clear m v m' v' d free fixed_1 h = refl
bits_clear m v m' v' d fixed_0 free h = refl
bits_clear m v m' v' d fixed_0 fixed_0 h = refl
bits_clear m v m' v' d fixed_0 fixed_1 h = absurd (cc)
bits_clear m v m' v' d fixed_1 free h = refl
bits_clear m v m' v' d fixed_1 fixed_0 h = absurd (cc)
bits_clear m v m' v' d fixed_1 fixed_1 h = refl

pair_inside : (m v : ℕ) → BitPair m v → v ≤ m
pair_inside m v free = omega arith
pair_inside m v fixed_0 = omega arith
pair_inside m v fixed_1 = omega arith

-- the digits of one more bit
digits_join-suc : (mask value mask' value' n : ℕ) → bit_and value mask ≡ value → bit_and value' mask' ≡ value' → bit_of (clashes mask value mask' value') n ≡ 0 → joined_digit (digit_at mask value n) (digit_at mask' value' n) ≡ Some (digit_at (bit_or mask mask') (bit_or value value') n)
digits_join-suc mask value mask' value' n inside inside' clear =
    let join = bits_join (bit_of mask n) (bit_of value n) (bit_of mask' n) (bit_of value' n) (BitPair-at mask value inside n) (BitPair-at mask' value' inside' n) (sym (bit_of-clashes mask value mask' value' n) ∙ clear) in
    join ∙ ap (λ m. Some (bit_digit m (max (bit_of value n) (bit_of value' n)))) (sym (bit_at_or mask mask' n)) ∙ ap (λ v. Some (bit_digit (bit_of (bit_or mask mask') n) v)) (sym (bit_at_or value value' n))

-- where no bit clashes the digits join, to those of the joined numbers
digits_join : (mask value mask' value' n : ℕ) → bit_and value mask ≡ value → bit_and value' mask' ≡ value' → ((i : ℕ) → bit_of (clashes mask value mask' value') i ≡ 0) → joined (digits_below mask value n) (digits_below mask' value' n) ≡ Some (digits_below (bit_or mask mask') (bit_or value value') n)
digits_join mask value mask' value' zero inside inside' clear = refl
digits_join mask value mask' value' (suc n) inside inside' clear =
    ap (λ o. option_and_then (λ j. option_map (λ js. j ∷ js) (joined (digits_below mask value n) (digits_below mask' value' n))) o) (digits_join-suc mask value mask' value' n inside inside' (clear n))
    ∙ ap (λ r. option_map (λ js. digit_at (bit_or mask mask') (bit_or value value') n ∷ js) r) (digits_join mask value mask' value' n inside inside' clear)

-- where the digits join no bit below the width clashes
digits_clear : (mask value mask' value' n : ℕ) → bit_and value mask ≡ value → bit_and value' mask' ≡ value' → (js : List Digit) → joined (digits_below mask value n) (digits_below mask' value' n) ≡ Some js → (i : ℕ) → i < n → bit_of (clashes mask value mask' value') i ≡ 0
digits_clear mask value mask' value' zero inside inside' js h i below = absurd (omega arith)
digits_clear mask value mask' value' (suc n) inside inside' js h i below =
    let p = joined-cons (digit_at mask value n) (digit_at mask' value' n) (digits_below mask value n) (digits_below mask' value' n) js h in
    let here = bit_of-clashes mask value mask' value' n ∙ bits_clear (bit_of mask n) (bit_of value n) (bit_of mask' n) (bit_of value' n) p.first (BitPair-at mask value inside n) (BitPair-at mask' value' inside' n) p.is_first in
    below_more (λ k. bit_of (clashes mask value mask' value') k ≡ 0) n (digits_clear mask value mask' value' n inside inside' p.others p.is_others) here i (omega arith)

pub join_some : (mask value mask' value' n : ℕ) → bit_and value mask ≡ value → bit_and value' mask' ≡ value' → clashes mask value mask' value' ≡ 0 → joined (digits_below mask value n) (digits_below mask' value' n) ≡ Some (digits_below (bit_or mask mask') (bit_or value value') n)
join_some mask value mask' value' n inside inside' clear = digits_join mask value mask' value' n inside inside' (λ i. ap (λ x. bit_of x i) clear ∙ bit_at-zero i)

pub join_none : (mask value mask' value' n : ℕ) → mask' < 2 ^ n → bit_and value mask ≡ value → bit_and value' mask' ≡ value' → clashes mask value mask' value' ≢ 0 → joined (digits_below mask value n) (digits_below mask' value' n) ≡ None
join_none mask value mask' value' n fits inside inside' differ = go (joined (digits_below mask value n) (digits_below mask' value' n)) refl
  where
    go : (o : Option (List Digit)) → joined (digits_below mask value n) (digits_below mask' value' n) ≡ o → o ≡ None
    go None h = refl
    go (Some js) h =
        let few = and_le_r (bit_and (bit_xor value value') mask) mask' in
        absurd (differ (same_from_bits_below n (clashes mask value mask' value') 0 (omega arith) (pow_pos n) (λ i below. digits_clear mask value mask' value' n inside inside' js h i below ∙ sym (bit_at-zero i))))

-- the joined value lies inside the joined mask
pub or_inside : (mask value mask' value' : ℕ) → bit_and value mask ≡ value → bit_and value' mask' ≡ value' → bit_and (bit_or value value') (bit_or mask mask') ≡ bit_or value value'
or_inside mask value mask' value' inside inside' = same_from_bits (bit_and (bit_or value value') (bit_or mask mask')) (bit_or value value') each
  where
    each : (i : ℕ) → bit_of (bit_and (bit_or value value') (bit_or mask mask')) i ≡ bit_of (bit_or value value') i
    each i =
        let left = pair_inside (bit_of mask i) (bit_of value i) (BitPair-at mask value inside i) in
        let right = pair_inside (bit_of mask' i) (bit_of value' i) (BitPair-at mask' value' inside' i) in
        let kept : min (max (bit_of value i) (bit_of value' i)) (max (bit_of mask i) (bit_of mask' i)) ≡ max (bit_of value i) (bit_of value' i) = omega arith in
        bit_at_and (bit_or value value') (bit_or mask mask') i
        ∙ ap (λ b. min b (bit_of (bit_or mask mask') i)) (bit_at_or value value' i)
        ∙ ap (λ b. min (max (bit_of value i) (bit_of value' i)) b) (bit_at_or mask mask' i)
        ∙ kept ∙ sym (bit_at_or value value' i)

-- what `joined` takes
pub ruleset joins = (join_some, join_none, or_inside, or_lt)
