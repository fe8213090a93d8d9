-- A shift and a mask are a slice.
use Rattle.std.proofs.Common.{ℕ, ◌≡◌, ◌∙◌, ◌-◌, ◌/◌, ◌%◌, ◌^◌, ◌≤◌, ap, bit_and, arith}
use Rattle.std.proofs.lemmas.Nat.{and_mask}
use Rattle.std.proofs.lemmas.Nat.Bits.{ones_shr}

-- `u128::MAX >> (128 - width)` has the low `width` bits
pub masked_is_slice : (shifted width : ℕ) → width ≤ 128 → bit_and shifted (340282366920938463463374607431768211455 / 2 ^ (128 - width)) ≡ shifted % 2 ^ width
masked_is_slice shifted width fits =
    let back : 128 - (128 - width) ≡ width = omega arith in
    ap (λ mask. bit_and shifted mask) (ones_shr 128 (128 - width) (omega arith) ∙ ap (λ k. 2 ^ k - 1) back) ∙ and_mask shifted width
