-- The layout of words and what is made of given bits, by masks.
use Rattle.std.proofs.Common.{◌≡◌, ◌∙◌, sym, ap, refl, ℕ, zero, suc, ◌+◌, ◌-◌, ◌%◌, ◌^◌, ◌<◌, min, max, bit_and, bit_or, bit_xor, Bool, not, ◌&&◌, ◌==◌, cond, List, Option, Some, None, arith, is_none}
use Rattle.std.specs.Prelude.{unwrap_or}
use Rattle.std.specs.Int.{w32, bit_not}
use Rattle.std.proofs.lemmas.Nat.{mod_below, and_le_l, and_le_r, or_lt}
use Rattle.std.proofs.lemmas.Nat.Bits.{bit_at-lt, bit_at-zero, bit_at_and, bit_at_or, bit_at_xor, bit_at_not, same_from_bits_below}
use Rattle.spec_bits.specs.Bits.{bit_of}
use Rattle.bit_pattern.proofs.DigitLaws.{BitPair, free, fixed_0, fixed_1, BitPair-at}
use Rattle.spec_encoding.specs.Parts.{Part, some_gives, is_clash, highest}
use Rattle.spec_encoding.specs.Layout.{Layout, flipped, rest_in, is_against, is_misfixed, is_stray}
use Rattle.spec_encoding.specs.Placed.{not_given, made_bit, made}
use Rattle.spec_encoding.proofs.BitLaws.{highest-same, number-is}
use Rattle.spec_encoding.proofs.PlacedLaws.{flipped-lt}
use Rattle.word_layout.specs.Masks.{has_bit, fixed_by, IsMask, GivesParts}
use Rattle.word_layout.specs.Views.{layout_of}
use Rattle.word_layout.specs.declared.layout.WordLayout.{WordLayout}

-- ---- one bit

both : (x y : ℕ) → x < 2 → y < 2 → (min x y == 1) ≡ (x == 1 && y == 1)
both zero zero hx hy = refl
both zero (suc zero) hx hy = refl
both (suc zero) zero hx hy = refl
both (suc zero) (suc zero) hx hy = refl
both (suc (suc x)) y hx hy = absurd (omega arith)
both zero (suc (suc y)) hx hy = absurd (omega arith)
both (suc zero) (suc (suc y)) hx hy = absurd (omega arith)

but : (x y : ℕ) → x < 2 → y < 2 → (min x (1 - y) == 1) ≡ (x == 1 && not (y == 1))
but zero zero hx hy = refl
but zero (suc zero) hx hy = refl
but (suc zero) zero hx hy = refl
but (suc zero) (suc zero) hx hy = refl
but (suc (suc x)) y hx hy = absurd (omega arith)
but zero (suc (suc y)) hx hy = absurd (omega arith)
but (suc zero) (suc (suc y)) hx hy = absurd (omega arith)

against : (z o m v : ℕ) → z < 2 → o < 2 → BitPair m v → (ps : List Part) (i : ℕ) → (z == 1) ≡ some_gives ps i 0 → (o == 1) ≡ some_gives ps i 1
    → (max (min z v) (min o ((m + v) % 2)) == 1) ≡ is_against ps i (cond (m == 0) None (Some v))
against z o m v hz ho free ps i ez eo = let none : max (min z 0) (min o 0) ≡ 0 = omega arith in ap (λ x. x == 1) none
against z o m v hz ho fixed_0 ps i ez eo = let one : max (min z 0) (min o 1) ≡ o = omega arith in ap (λ x. x == 1) one ∙ eo
against z o m v hz ho fixed_1 ps i ez eo = let one : max (min z 1) (min o 0) ≡ z = omega arith in ap (λ x. x == 1) one ∙ ez

abbrev filled : Bool → ℕ → Option ℕ → ℕ
filled b y None = cond b y 0
filled b y (Some v) = v

filled-is : (l : Layout) (rest i : ℕ) (o : Option ℕ) → filled (l.free i) ((bit_of rest i + l.default i) % 2) o ≡ not_given l rest i o
filled-is l rest i None = refl
filled-is l rest i (Some b) = refl

fill : (m v f y : ℕ) → BitPair m v → f < 2 → min f m ≡ 0 → y < 2 → min 1 (max v (min f y)) ≡ filled (f == 1) y (cond (m == 0) None (Some v))
fill m v zero y free hf apart hy = omega arith
fill m v (suc zero) y free hf apart hy = omega arith
fill m v zero y fixed_0 hf apart hy = omega arith
fill m v zero y fixed_1 hf apart hy = omega arith
fill m v (suc zero) y fixed_0 hf apart hy = absurd (omega arith)
fill m v (suc zero) y fixed_1 hf apart hy = absurd (omega arith)
fill m v (suc (suc f)) y pair hf apart hy = absurd (omega arith)

chosen : (o z x u : ℕ) → o < 2 → z < 2 → min 1 x ≡ u → max o (min (1 - z) x) ≡ cond (o == 1) 1 (cond (z == 1) 0 u)
chosen zero zero x u ho hz e = let plain : max 0 (min (1 - 0) x) ≡ min 1 x = omega arith in plain ∙ e
chosen zero (suc zero) x u ho hz e = omega arith
chosen (suc zero) zero x u ho hz e = omega arith
chosen (suc zero) (suc zero) x u ho hz e = omega arith
chosen (suc (suc o)) z x u ho hz e = absurd (omega arith)
chosen zero (suc (suc z)) x u ho hz e = absurd (omega arith)
chosen (suc zero) (suc (suc z)) x u ho hz e = absurd (omega arith)

-- ---- masks

pub clash-mask : (ps : List Part) (ones zeros : ℕ) → GivesParts ps ones zeros → highest (has_bit (bit_and zeros ones)) 32 ≡ highest (is_clash ps) 32
clash-mask ps ones zeros h = highest-same (has_bit (bit_and zeros ones)) (is_clash ps) 32 (λ i below.
    ap (λ b. b == 1) (bit_at_and zeros ones i)
    ∙ both (bit_of zeros i) (bit_of ones i) (bit_at-lt zeros i) (bit_at-lt ones i)
    ∙ ap (λ b. b && has_bit ones i) (h.zeros i below)
    ∙ ap (λ b. some_gives ps i 0 && b) (h.ones i below))

pub misfixed-mask : (ps : List Part) (ones zeros : ℕ) (b : WordLayout) → GivesParts ps ones zeros
    → highest (has_bit (bit_or (bit_and zeros b.value) (bit_and ones (bit_xor b.mask b.value)))) 32 ≡ highest (is_misfixed (layout_of b) ps) 32
misfixed-mask ps ones zeros b h = highest-same _ (is_misfixed (layout_of b) ps) 32 (λ i below.
    ap (λ x. x == 1) (bit_at_or (bit_and zeros b.value) (bit_and ones (bit_xor b.mask b.value)) i)
    ∙ ap (λ x. max x (bit_of (bit_and ones (bit_xor b.mask b.value)) i) == 1) (bit_at_and zeros b.value i)
    ∙ ap (λ x. max (min (bit_of zeros i) (bit_of b.value i)) x == 1) (bit_at_and ones (bit_xor b.mask b.value) i)
    ∙ ap (λ x. max (min (bit_of zeros i) (bit_of b.value i)) (min (bit_of ones i) x) == 1) (bit_at_xor b.mask b.value i)
    ∙ against (bit_of zeros i) (bit_of ones i) (bit_of b.mask i) (bit_of b.value i) (bit_at-lt zeros i) (bit_at-lt ones i) (BitPair-at b.mask b.value b.inside i) ps i (h.zeros i below) (h.ones i below))

pub stray-mask : (b : WordLayout) (rest : ℕ) → highest (has_bit (bit_and rest (4294967295 - b.free))) 32 ≡ highest (is_stray (layout_of b) rest) 32
stray-mask b rest = highest-same _ (is_stray (layout_of b) rest) 32 (λ i below.
    ap (λ x. x == 1) (bit_at_and rest (bit_not w32 b.free) i)
    ∙ ap (λ x. min (bit_of rest i) x == 1) (bit_at_not w32 b.free i b.free_fits below)
    ∙ but (bit_of rest i) (bit_of b.free i) (bit_at-lt rest i) (bit_at-lt b.free i))

module _ (ps : List Part) (ones zeros : ℕ) (b : WordLayout) (rest : ℕ) (h : GivesParts ps ones zeros) (zeros_fit : zeros < 2 ^ 32) where
  abbrev open_bits : ℕ
  open_bits = bit_and b.free (bit_xor b.default rest)

  abbrev word : ℕ
  word = bit_or ones (bit_and (bit_not w32 zeros) (bit_or b.value open_bits))

  turned : (i : ℕ) → (bit_of b.default i + bit_of rest i) % 2 ≡ (bit_of rest i + bit_of b.default i) % 2
  turned i = let swap : bit_of b.default i + bit_of rest i ≡ bit_of rest i + bit_of b.default i = omega arith in ap (λ x. x % 2) swap

  bit_of-word : (i : ℕ) → i < 32 → bit_of word i ≡ max (bit_of ones i) (min (1 - bit_of zeros i) (max (bit_of b.value i) (min (bit_of b.free i) ((bit_of rest i + bit_of b.default i) % 2))))
  bit_of-word i below =
      bit_at_or ones (bit_and (bit_not w32 zeros) (bit_or b.value open_bits)) i
      ∙ ap (λ x. max (bit_of ones i) x) (bit_at_and (bit_not w32 zeros) (bit_or b.value open_bits) i
      ∙ ap (λ x. min x (bit_of (bit_or b.value open_bits) i)) (bit_at_not w32 zeros i zeros_fit below)
      ∙ ap (λ x. min (1 - bit_of zeros i) x) (bit_at_or b.value open_bits i
      ∙ ap (λ x. max (bit_of b.value i) x) (bit_at_and b.free (bit_xor b.default rest) i
      ∙ ap (λ x. min (bit_of b.free i) x) (bit_at_xor b.default rest i ∙ turned i))))

  apart : (i : ℕ) → min (bit_of b.free i) (bit_of b.mask i) ≡ 0
  apart i = sym (bit_at_and b.free b.mask i) ∙ ap (λ x. bit_of x i) b.apart ∙ bit_at-zero i

  made_bit-word : (i : ℕ) → i < 32 → made_bit (layout_of b) ps rest i ≡ bit_of word i
  made_bit-word i below =
      let y = (bit_of rest i + bit_of b.default i) % 2 in
      let inner = fill (bit_of b.mask i) (bit_of b.value i) (bit_of b.free i) y (BitPair-at b.mask b.value b.inside i) (bit_at-lt b.free i) (apart i) (mod_below (bit_of rest i + bit_of b.default i) 2 (omega arith))
      ∙ filled-is (layout_of b) rest i (fixed_by b.mask b.value i) in
      let u = not_given (layout_of b) rest i (fixed_by b.mask b.value i) in
      sym (bit_of-word i below
      ∙ chosen (bit_of ones i) (bit_of zeros i) (max (bit_of b.value i) (min (bit_of b.free i) y)) u (bit_at-lt ones i) (bit_at-lt zeros i) inner
      ∙ ap (λ t. cond t 1 (cond (has_bit zeros i) 0 u)) (h.ones i below)
      ∙ ap (λ t. cond (some_gives ps i 1) 1 (cond t 0 u)) (h.zeros i below))

  pub made-word : word < 2 ^ 32 → word ≡ made (layout_of b) ps rest
  made-word fits = sym (number-is (made_bit (layout_of b) ps rest) 32 word small fits made_bit-word)
    where
      small : (i : ℕ) → i < 32 → made_bit (layout_of b) ps rest i < 2
      small i below = let e = made_bit-word i below in omega (arith, e, bit_at-lt word i)

pub word-lt : (ones zeros x : ℕ) → ones < 2 ^ 32 → bit_or ones (bit_and (bit_not w32 zeros) x) < 2 ^ 32
word-lt ones zeros x fits = or_lt 32 ones (bit_and (bit_not w32 zeros) x) fits (omega (arith, and_le_l (bit_not w32 zeros) x))

-- ---- the rest of a word

taken : (f d : ℕ) → f < 2 → d < 2 → cond (f == 1) d 0 ≡ min d f
taken zero d hf hd = omega arith
taken (suc zero) d hf hd = omega arith
taken (suc (suc f)) d hf hd = absurd (omega arith)

pub rest-mask : (b : WordLayout) (w : ℕ) → bit_and (bit_xor w b.default) b.free ≡ rest_in (layout_of b) w
rest-mask b w = sym (number-is (flipped (layout_of b) w) 32 (bit_and (bit_xor w b.default) b.free) (λ i _. flipped-lt (layout_of b) w i) fits each)
  where
    fits : bit_and (bit_xor w b.default) b.free < 2 ^ 32
    fits = omega (arith, and_le_r (bit_xor w b.default) b.free, b.free_fits)

    each : (i : ℕ) → i < 32 → flipped (layout_of b) w i ≡ bit_of (bit_and (bit_xor w b.default) b.free) i
    each i below =
        taken (bit_of b.free i) ((bit_of w i + bit_of b.default i) % 2) (bit_at-lt b.free i) (mod_below (bit_of w i + bit_of b.default i) 2 (omega arith))
        ∙ ap (λ x. min x (bit_of b.free i)) (sym (bit_at_xor w b.default i))
        ∙ sym (bit_at_and (bit_xor w b.default) b.free i)

-- ---- a new layout

open_bit : (m v k : ℕ) → BitPair m v → k < 2 → (1 - max m k == 1) ≡ (is_none (cond (m == 0) None (Some v)) && not (k == 1))
open_bit m v zero free hk = refl
open_bit m v (suc zero) free hk = refl
open_bit m v zero fixed_0 hk = refl
open_bit m v (suc zero) fixed_0 hk = refl
open_bit m v zero fixed_1 hk = refl
open_bit m v (suc zero) fixed_1 hk = refl
open_bit m v (suc (suc k)) pair hk = absurd (omega arith)

pub free-mask : (mask value fields : ℕ) → bit_and value mask ≡ value → bit_or mask fields < 2 ^ 32 → IsMask (4294967295 - bit_or mask fields) (λ i. is_none (fixed_by mask value i) && not (has_bit fields i))
free-mask mask value fields inside fits i below =
    ap (λ x. x == 1) (bit_at_not w32 (bit_or mask fields) i fits below)
    ∙ ap (λ x. 1 - x == 1) (bit_at_or mask fields i)
    ∙ open_bit (bit_of mask i) (bit_of value i) (bit_of fields i) (BitPair-at mask value inside i) (bit_at-lt fields i)

default_bit : (m v f : ℕ) → BitPair m v → f < 2 → min v f ≡ cond (f == 1) (unwrap_or (cond (m == 0) None (Some v)) 0) 0
default_bit m v zero free hf = refl
default_bit m v (suc zero) free hf = refl
default_bit m v zero fixed_0 hf = refl
default_bit m v (suc zero) fixed_0 hf = refl
default_bit m v zero fixed_1 hf = refl
default_bit m v (suc zero) fixed_1 hf = refl
default_bit m v (suc (suc f)) pair hf = absurd (omega arith)

pub default-mask : (mask value open_bits : ℕ) → bit_and value mask ≡ value → (i : ℕ) → bit_of (bit_and value open_bits) i ≡ cond (has_bit open_bits i) (unwrap_or (fixed_by mask value i) 0) 0
default-mask mask value open_bits inside i =
    bit_at_and value open_bits i ∙ default_bit (bit_of mask i) (bit_of value i) (bit_of open_bits i) (BitPair-at mask value inside i) (bit_at-lt open_bits i)

none_left : (m k : ℕ) → m < 2 → k < 2 → min (1 - max m k) m ≡ 0
none_left zero k hm hk = omega arith
none_left (suc zero) k hm hk = omega arith
none_left (suc (suc m)) k hm hk = absurd (omega arith)

pub free-apart : (mask fields : ℕ) → bit_or mask fields < 2 ^ 32 → bit_and (4294967295 - bit_or mask fields) mask ≡ 0
free-apart mask fields fits = same_from_bits_below 32 (bit_and (bit_not w32 (bit_or mask fields)) mask) 0 (omega (arith, and_le_l (bit_not w32 (bit_or mask fields)) mask)) (omega arith) (λ i below.
    bit_at_and (bit_not w32 (bit_or mask fields)) mask i
    ∙ ap (λ x. min x (bit_of mask i)) (bit_at_not w32 (bit_or mask fields) i fits below ∙ ap (λ x. 1 - x) (bit_at_or mask fields i))
    ∙ none_left (bit_of mask i) (bit_of fields i) (bit_at-lt mask i) (bit_at-lt fields i)
    ∙ sym (bit_at-zero i))
