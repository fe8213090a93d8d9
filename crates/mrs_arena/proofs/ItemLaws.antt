-- What holds of every item.
use Rattle.std.proofs.Common.{◌≡◌, ◌∙◌, sym, ap, refl, ℕ, zero, suc, true, not, ◌&&◌, ◌||◌, cond, ◌==◌, is_some, bit_and, arith}
use Rattle.spec_bits.specs.Bits.{bit_of}
use Rattle.spec_bits.specs.Pattern.{Zero, One, Either, digit_value}
use Rattle.bit_pattern.specs.Digits.{digits_below}
use Rattle.bit_pattern.specs.Marks.{marks_of}
use Rattle.bit_pattern.proofs.MarkLaws.{length-marks_of}
use Rattle.bit_pattern.proofs.DigitLaws.{length-digits_below, BitPair, free, fixed_0, fixed_1, BitPair-at}
use Rattle.mrs_arena.specs.Views.{flat_item}
use Rattle.mrs_arena.specs.Formed.{IsItem, are_binary_where_marked}
use Rattle.mrs_arena.specs.declared.item.Item.{Item}

-- one bit: m of the mask, v of the value, s of the marks
binary_bit : (m v s : ℕ) → BitPair m v → BitPair m s → (not (s == 1) || is_some (digit_value (cond (m == 0) Either (cond (v == 0) Zero One)))) ≡ true
binary_bit m v s free free = refl
binary_bit m v s fixed_0 fixed_0 = refl
binary_bit m v s fixed_0 fixed_1 = refl
binary_bit m v s fixed_1 fixed_0 = refl
binary_bit m v s fixed_1 fixed_1 = refl

-- marks inside the mask mark digits `0` and `1`
binary_where_marked : (mask value marks n : ℕ) → bit_and value mask ≡ value → bit_and marks mask ≡ marks → are_binary_where_marked (digits_below mask value n) (marks_of n marks) ≡ true
binary_where_marked mask value marks zero inside marked = refl
binary_where_marked mask value marks (suc n) inside marked =
    ap (λ b. b && are_binary_where_marked (digits_below mask value n) (marks_of n marks)) (binary_bit (bit_of mask n) (bit_of value n) (bit_of marks n) (BitPair-at mask value inside n) (BitPair-at mask marks marked n))
    ∙ binary_where_marked mask value marks n inside marked

pub IsItem-flat : (it : Item) → IsItem (flat_item it)
IsItem-flat it =
    let p = it.pattern in
    let wide = length-digits_below p.mask p.value p.width in
    let some = p.some in
    let fits = it.fits in
    record {
      some = omega arith;
      fits = omega arith;
      marks = length-marks_of p.width it.should ∙ sym wide;
      binary = binary_where_marked p.mask p.value it.should p.width p.value_in_mask it.marked;
    }
