-- A shift and a mask of the word's 32 bits are a slice.
use Rattle.std.proofs.Common.{ℕ, ◌≡◌, ◌∙◌, ◌-◌, ◌/◌, ◌%◌, ◌^◌, ◌≤◌, ap, bit_and, arith}
use Rattle.std.proofs.lemmas.Nat.{and_mask}
use Rattle.std.proofs.lemmas.Nat.Bits.{ones_shr}

-- `u32::MAX >> (32 - width)` has the low `width` bits
pub masked_is_slice : (shifted width : ℕ) → width ≤ 32 → bit_and shifted (4294967295 / 2 ^ (32 - width)) ≡ shifted % 2 ^ width
masked_is_slice shifted width fits =
    let back : 32 - (32 - width) ≡ width = omega arith in
    ap (λ mask. bit_and shifted mask) (ones_shr 32 (32 - width) (omega arith) ∙ ap (λ k. 2 ^ k - 1) back) ∙ and_mask shifted width
