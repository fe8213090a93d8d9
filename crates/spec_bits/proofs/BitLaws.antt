-- Laws of bits and slices.
use Rattle.std.proofs.Common.{◌≡◌, ◌∙◌, sym, ap, ℕ, suc, ◌+◌, ◌*◌, ◌-◌, ◌/◌, ◌%◌, ◌^◌, ◌<◌, ◌≤◌, min, arith}
use Rattle.std.proofs.lemmas.Nat.{and_mask, shr-shr, mod_below, pow_pos}
use Rattle.std.proofs.lemmas.Nat.Bits.{bit_at_and, bit_at_ones, bit_at-lt, bit_at_above}
use Rattle.std.proofs.Math.Arith.{mod-mul}
use Rattle.std.proofs.Math.Nat.{pow-succ'}
use Rattle.spec_bits.specs.Bits.{bit_of, slice}

-- a bit is 0 or 1
pub bit_of-lt : (w i : ℕ) → bit_of w i < 2
bit_of-lt w i = bit_at-lt w i

-- the low bits of a number are kept where it is taken mod 2 ^ n
pub bit_of-mod : (w n i : ℕ) → i < n → bit_of (w % 2 ^ n) i ≡ bit_of w i
bit_of-mod w n i h =
    let kept : min (bit_of w i) 1 ≡ bit_of w i = omega (arith, bit_at-lt w i) in
    ap (λ x. bit_of x i) (sym (and_mask w n)) ∙ bit_at_and w (2 ^ n - 1) i ∙ ap (λ b. min (bit_of w i) b) (bit_at_ones n i h) ∙ kept

-- bit i of a slice is bit start + i of the number, below the width, and 0 above
pub bit_of-slice : (w start width i : ℕ) → i < width → bit_of (slice w start width) i ≡ bit_of w (start + i)
bit_of-slice w start width i h = bit_of-mod (w / 2 ^ start) width i h ∙ ap (λ x. x % 2) (shr-shr w start i)

pub slice-lt : (w start width : ℕ) → slice w start width < 2 ^ width
slice-lt w start width = mod_below (w / 2 ^ start) (2 ^ width) (pow_pos width)

pub bit_of-slice_above : (w start width i : ℕ) → width ≤ i → bit_of (slice w start width) i ≡ 0
bit_of-slice_above w start width i h = bit_at_above (slice w start width) width i (slice-lt w start width) h

-- a number's lowest k + 1 bits are bit k and the lowest k
pub mod-bit : (n k : ℕ) → n % 2 ^ suc k ≡ bit_of n k * 2 ^ k + n % 2 ^ k
mod-bit n k = ap (λ c. n % c) (pow-succ' 2 k) ∙ mod-mul n {m = 2} {c = 2 ^ k} (omega arith) (pow_pos k)
