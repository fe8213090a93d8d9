-- The digits of an item at their place in the word, and what the items along a path fix.
use Rattle.std.proofs.Common.{◌≡◌, ◌∙◌, sym, ap, refl, subst, ℕ, zero, suc, ◌+◌, ◌-◌, ◌*◌, ◌/◌, ◌%◌, ◌^◌, ◌<◌, ◌≤◌, bit_and, cond, ◌==◌, List, [], ◌∷◌, ◌++◌, length, map, Some, None, option_and_then, replicate, arith, add-zero}
use Rattle.std.proofs.lemmas.Nat.{and_block, pow_pos, pow-add, shr-shr, shl-shr, shl_below, shl_whole}
use Rattle.std.proofs.Math.Nat.{mul_assoc, mul-mod_left}
use Rattle.std.proofs.lemmas.Nat.Bits.{bit_at_above}
use Rattle.std.proofs.Math.Pow.{pow_mono}
use Rattle.spec_bits.specs.Bits.{bit_of}
use Rattle.spec_bits.specs.Pattern.{Zero, One, Either, joined}
use Rattle.spec_instructions.specs.Fields.{word_digits, joined_items, merged}
use Rattle.spec_bits.specs.Item.{fixed_digits}
use Rattle.bit_pattern.specs.Digits.{digit_at, digits_below}
use Rattle.bit_pattern.specs.Views.{digits_of}
use Rattle.bit_pattern.specs.declared.pattern.Pattern.{Pattern}
use Rattle.bit_pattern.proofs.DigitLaws.{length-digits_below, inside_le}
use Rattle.mrs_arena.specs.declared.item.Item.{Item}
use Rattle.mrs_arena.specs.Views.{flat_item}
use Rattle.mrs_arena.specs.Flat.{FlatItem, FlatNode, with_text}
use Rattle.mrs_arena.specs.Placed.{item_of, path_to}
use Rattle.insn_tree.specs.Upward.{onto}
use Rattle.insn_tree.specs.Words.{join_item, merged_at}
use Rattle.ast_eval.specs.Fields.{items_to}
use Rattle.ast_eval.proofs.PathLaws.{path_items_to}
use Rattle.insn_tree.proofs.UpwardLaws.{gathered-onto}

-- ---- a path

pub joined-onto : (names : List (List ℕ)) (items : List FlatItem) → joined_items (map (item_of names) items) ≡ onto join_item items (Some (replicate 32 Either))
joined-onto names [] = refl
joined-onto names (it ∷ items) = ap (option_and_then (joined (word_digits (with_text None it)))) (joined-onto names items)

pub merged-at : (names : List (List ℕ)) (nodes : List FlatNode) (n : ℕ) → merged (path_to names nodes n) ≡ merged_at nodes n
merged-at names nodes n =
    ap joined_items (path_items_to names nodes n) ∙ joined-onto names (items_to nodes n) ∙ sym (gathered-onto join_item nodes n (Some (replicate 32 Either)))

-- ---- digits moved up

bit_of-moved : (n s i : ℕ) → bit_of (n * 2 ^ s) (i + s) ≡ bit_of n i
bit_of-moved n s i =
    let turned : i + s ≡ s + i = omega arith in
    ap (bit_of (n * 2 ^ s)) turned ∙ ap (λ x. x % 2) (sym (shr-shr (n * 2 ^ s) s i) ∙ ap (λ x. x / 2 ^ i) (shl-shr n s))

bit_of-under : (n s i : ℕ) → i < s → bit_of (n * 2 ^ s) i ≡ 0
bit_of-under n s i below =
    let low = s - i - 1 in
    let split : s ≡ low + 1 + i = omega arith in
    let power : 2 ^ s ≡ 2 ^ low * 2 * 2 ^ i = ap (λ k. 2 ^ k) split ∙ pow-add 2 (low + 1) i ∙ ap (λ x. x * 2 ^ i) (pow-add 2 low 1) in
    let group : n * 2 ^ s ≡ n * (2 ^ low * 2) * 2 ^ i = ap (λ x. n * x) power ∙ sym (mul_assoc n (2 ^ low * 2) (2 ^ i)) in
    ap (λ x. bit_of x i) group
    ∙ ap (λ x. x % 2) (shl-shr (n * (2 ^ low * 2)) i)
    ∙ ap (λ x. x % 2) (sym (mul_assoc n (2 ^ low) 2))
    ∙ mul-mod_left (n * 2 ^ low) 2

-- bits that are not in the mask are free
digits_free : (mask value n : ℕ) → ((i : ℕ) → i < n → bit_of mask i ≡ 0) → digits_below mask value n ≡ replicate n Either
digits_free mask value zero clear = refl
digits_free mask value (suc n) clear =
    ap (λ b. cond (b == 0) Either (cond (bit_of value n == 0) Zero One) ∷ digits_below mask value n) (clear n (omega arith))
    ∙ ap (λ ds. Either ∷ ds) (digits_free mask value n (λ i below. clear i (omega arith)))

digits_moved : (mask value s n k : ℕ) → k ≡ n + s → digits_below (mask * 2 ^ s) (value * 2 ^ s) k ≡ digits_below mask value n ++ replicate s Either
digits_moved mask value s zero k e =
    let low : k ≡ s = omega arith in
    ap (λ j. digits_below (mask * 2 ^ s) (value * 2 ^ s) j) low ∙ digits_free (mask * 2 ^ s) (value * 2 ^ s) s (λ i below. bit_of-under mask s i below)
digits_moved mask value s (suc n) zero e = absurd (omega arith)
digits_moved mask value s (suc n) (suc k) e =
    let place : k ≡ n + s = omega arith in
    ap (λ b. cond (b == 0) Either (cond (bit_of (value * 2 ^ s) k == 0) Zero One) ∷ digits_below (mask * 2 ^ s) (value * 2 ^ s) k) (ap (bit_of (mask * 2 ^ s)) place ∙ bit_of-moved mask s n)
    ∙ ap (λ b. cond (bit_of mask n == 0) Either (cond (b == 0) Zero One) ∷ digits_below (mask * 2 ^ s) (value * 2 ^ s) k) (ap (bit_of (value * 2 ^ s)) place ∙ bit_of-moved value s n)
    ∙ ap (λ ds. digit_at mask value n ∷ ds) (digits_moved mask value s n k place)

digits_wider : (mask value more n k : ℕ) → k ≡ more + n → mask < 2 ^ n → digits_below mask value k ≡ replicate more Either ++ digits_below mask value n
digits_wider mask value zero n k e fits = let same : k ≡ n = omega arith in ap (digits_below mask value) same
digits_wider mask value (suc more) n zero e fits = absurd (omega arith)
digits_wider mask value (suc more) n (suc k) e fits =
    let place : k ≡ more + n = omega arith in
    ap (λ b. cond (b == 0) Either (cond (bit_of value k == 0) Zero One) ∷ digits_below mask value k) (bit_at_above mask n k fits (omega arith))
    ∙ ap (λ ds. Either ∷ ds) (digits_wider mask value more n k place fits)

-- an item's digits at their place in the word
pub word-digits : (mask value s width : ℕ) → mask < 2 ^ width → s + width ≤ 32
    → digits_below (mask * 2 ^ s) (value * 2 ^ s) 32 ≡ replicate (32 - (s + width)) Either ++ (digits_below mask value width ++ replicate s Either)
word-digits mask value s width fits within =
    digits_wider (mask * 2 ^ s) (value * 2 ^ s) (32 - (s + width)) (width + s) 32 (omega arith) (shl_below mask width s fits)
    ∙ ap (λ ds. replicate (32 - (s + width)) Either ++ ds) (digits_moved mask value s width (width + s) refl)

-- and the numbers that they stand for
pub moved_fits : (mask s width : ℕ) → mask < 2 ^ width → s + width ≤ 32 → mask * 2 ^ s < 2 ^ 32
moved_fits mask s width fits within = omega (arith, shl_below mask width s fits, pow_mono {i = width + s} {j = 32} (omega arith))

pub moved_inside : (mask value s : ℕ) → bit_and value mask ≡ value → bit_and (value * 2 ^ s) (mask * 2 ^ s) ≡ value * 2 ^ s
moved_inside mask value s inside =
    let zero_block = and_block s value mask 0 0 (pow_pos s) (pow_pos s) in
    ap (λ x. bit_and x (mask * 2 ^ s)) (sym (add-zero (value * 2 ^ s)))
    ∙ ap (bit_and (value * 2 ^ s + 0)) (sym (add-zero (mask * 2 ^ s)))
    ∙ zero_block
    ∙ add-zero (bit_and value mask * 2 ^ s)
    ∙ ap (λ x. x * 2 ^ s) inside

pub moved_whole : (n s width : ℕ) → n < 2 ^ width → s + width ≤ 32 → (n * 2 ^ s) % 2 ^ 128 ≡ n * 2 ^ s
moved_whole n s width fits within = shl_whole n width s 128 fits (omega arith)

-- ---- an item's pattern at its place, as `word_pattern` makes it

module _ (it : Item) (fixed : Pattern) (width : fixed.width ≡ it.pattern.width) where
  room : it.start + fixed.width ≤ 32
  room = let fits = it.fits in omega arith

  value_lt : fixed.value < 2 ^ fixed.width
  value_lt = omega (arith, inside_le fixed.value fixed.mask fixed.value_in_mask, fixed.mask_fits)

  whole_mask : (fixed.mask * 2 ^ it.start) % 2 ^ 128 ≡ fixed.mask * 2 ^ it.start
  whole_mask = moved_whole fixed.mask it.start fixed.width fixed.mask_fits room

  whole_value : (fixed.value * 2 ^ it.start) % 2 ^ 128 ≡ fixed.value * 2 ^ it.start
  whole_value = moved_whole fixed.value it.start fixed.width value_lt room

  pub placed_fits : (fixed.mask * 2 ^ it.start) % 2 ^ 128 < 2 ^ 32
  placed_fits = subst (λ (m : ℕ). m < 2 ^ 32) (sym whole_mask) (moved_fits fixed.mask it.start fixed.width fixed.mask_fits room)

  pub placed_inside : bit_and ((fixed.value * 2 ^ it.start) % 2 ^ 128) ((fixed.mask * 2 ^ it.start) % 2 ^ 128) ≡ (fixed.value * 2 ^ it.start) % 2 ^ 128
  placed_inside =
      ap (λ m. bit_and ((fixed.value * 2 ^ it.start) % 2 ^ 128) m) whole_mask
      ∙ ap (λ v. bit_and v (fixed.mask * 2 ^ it.start)) whole_value
      ∙ moved_inside fixed.mask fixed.value it.start fixed.value_in_mask
      ∙ sym whole_value

  pub placed_digits : digits_of fixed ≡ fixed_digits (with_text None (flat_item it)) → digits_below ((fixed.mask * 2 ^ it.start) % 2 ^ 128) ((fixed.value * 2 ^ it.start) % 2 ^ 128) 32 ≡ word_digits (with_text None (flat_item it))
  placed_digits digits =
      ap (λ m. digits_below m ((fixed.value * 2 ^ it.start) % 2 ^ 128) 32) whole_mask
      ∙ ap (λ v. digits_below (fixed.mask * 2 ^ it.start) v 32) whole_value
      ∙ word-digits fixed.mask fixed.value it.start fixed.width fixed.mask_fits room
      ∙ ap (λ w. replicate (32 - (it.start + w)) Either ++ (digits_of fixed ++ replicate it.start Either)) (width ∙ sym (length-digits_below it.pattern.mask it.pattern.value it.pattern.width))
      ∙ ap (λ ds. replicate (32 - (it.start + length (digits_of it.pattern))) Either ++ (ds ++ replicate it.start Either)) digits
