-- A layout of masks and its numbers: the one tells the other.
use Rattle.std.specs.Prelude.{is_none, unwrap_or}
use Rattle.std.proofs.Common.{◌≡◌, ◌∙◌, sym, ap, refl, ℕ, zero, suc, ◌<◌, Bool, true, false, ◌==◌, cond, Option, Some, None, arith}
use Rattle.std.proofs.lemmas.Nat.Bits.{bit_at-lt}
use Rattle.spec_bits.specs.Bits.{bit_of}
use Rattle.bit_pattern.proofs.DigitLaws.{BitPair, free, fixed_0, fixed_1, BitPair-at, inside_le}
use Rattle.spec_encoding.specs.Layout.{Layout, LayoutNumbers, numbers}
use Rattle.spec_encoding.proofs.BitLaws.{number-is, bit_of-number}
use Rattle.spec_encoding.proofs.SameLayouts.{SameLayout}
use Rattle.word_layout.specs.Masks.{fixed_by, IsMask}
use Rattle.word_layout.specs.Views.{layout_of, numbers_of}
use Rattle.word_layout.specs.declared.layout.WordLayout.{WordLayout}

-- fixed values and defaults are bits
pub record IsBinary (l : Layout) : Type 0 where
  pub fixed : (i v : ℕ) → l.fixed i ≡ Some v → v < 2
  pub default : (i : ℕ) → l.default i < 2

-- masks have the bits of a layout below bit 32
pub record HasBits (b : WordLayout) (l : Layout) : Type 0 where
  pub fixed : (i : ℕ) → i < 32 → fixed_by b.mask b.value i ≡ l.fixed i
  pub free : IsMask b.free l.free
  pub default : (i : ℕ) → i < 32 → bit_of b.default i ≡ cond (l.free i) (l.default i) 0

mask_bit : (m v : ℕ) → BitPair m v → (o : Option ℕ) → cond (m == 0) None (Some v) ≡ o → cond (is_none o) 0 1 ≡ m
mask_bit m v free o e = ap (λ x. cond (is_none x) 0 1) (sym e)
mask_bit m v fixed_0 o e = ap (λ x. cond (is_none x) 0 1) (sym e)
mask_bit m v fixed_1 o e = ap (λ x. cond (is_none x) 0 1) (sym e)

value_bit : (m v : ℕ) → BitPair m v → (o : Option ℕ) → cond (m == 0) None (Some v) ≡ o → unwrap_or o 0 ≡ v
value_bit m v free o e = ap (λ x. unwrap_or x 0) (sym e)
value_bit m v fixed_0 o e = ap (λ x. unwrap_or x 0) (sym e)
value_bit m v fixed_1 o e = ap (λ x. unwrap_or x 0) (sym e)

free_bit : (f : ℕ) → f < 2 → (b : Bool) → (f == 1) ≡ b → cond b 1 0 ≡ f
free_bit zero lt b e = ap (λ x. cond x 1 0) (sym e)
free_bit (suc zero) lt b e = ap (λ x. cond x 1 0) (sym e)
free_bit (suc (suc f)) lt b e = absurd (omega arith)

small_mask : (o : Option ℕ) → cond (is_none o) 0 1 < 2
small_mask None = omega arith
small_mask (Some v) = omega arith

small_value : (o : Option ℕ) → ((v : ℕ) → o ≡ Some v → v < 2) → unwrap_or o 0 < 2
small_value None h = omega arith
small_value (Some v) h = h v refl

small_free : (b : Bool) → cond b 1 0 < 2
small_free true = omega arith
small_free false = omega arith

small_default : (b : Bool) (d : ℕ) → d < 2 → cond b d 0 < 2
small_default true d h = h
small_default false d h = omega arith

module _ (b : WordLayout) (l : Layout) (binary : IsBinary l) where
  abbrev pair : (i : ℕ) → BitPair (bit_of b.mask i) (bit_of b.value i)
  pair i = BitPair-at b.mask b.value b.inside i

  pub numbers-from : HasBits b l → numbers_of b ≡ numbers l
  numbers-from h =
      let mask = number-is (λ i. cond (is_none (l.fixed i)) 0 1) 32 b.mask (λ i _. small_mask (l.fixed i)) b.mask_fits (λ i below. mask_bit (bit_of b.mask i) (bit_of b.value i) (pair i) (l.fixed i) (h.fixed i below)) in
      let value = number-is (λ i. unwrap_or (l.fixed i) 0) 32 b.value (λ i _. small_value (l.fixed i) (binary.fixed i)) (omega (arith, inside_le b.value b.mask b.inside, b.mask_fits)) (λ i below. value_bit (bit_of b.mask i) (bit_of b.value i) (pair i) (l.fixed i) (h.fixed i below)) in
      let free' = number-is (λ i. cond (l.free i) 1 0) 32 b.free (λ i _. small_free (l.free i)) b.free_fits (λ i below. free_bit (bit_of b.free i) (bit_at-lt b.free i) (l.free i) (h.free i below)) in
      let default = number-is (λ i. cond (l.free i) (l.default i) 0) 32 b.default (λ i _. small_default (l.free i) (l.default i) (binary.default i)) (omega (arith, inside_le b.default b.free b.defaults, b.free_fits)) (λ i below. sym (h.default i below)) in
      sym (ap (λ m. record { mask = m; value = (numbers l).value; free = (numbers l).free; default = (numbers l).default }) mask
      ∙ ap (λ v. record { mask = b.mask; value = v; free = (numbers l).free; default = (numbers l).default }) value
      ∙ ap (λ f. record { mask = b.mask; value = b.value; free = f; default = (numbers l).default }) free'
      ∙ ap (λ d. record { mask = b.mask; value = b.value; free = b.free; default = d }) default)

  module _ (same : numbers_of b ≡ numbers l) where
    mask_at : (i : ℕ) → i < 32 → bit_of b.mask i ≡ cond (is_none (l.fixed i)) 0 1
    mask_at i below = ap (λ (n : LayoutNumbers). bit_of n.mask i) same ∙ bit_of-number (λ i. cond (is_none (l.fixed i)) 0 1) 32 (λ i _. small_mask (l.fixed i)) i below

    value_at : (i : ℕ) → i < 32 → bit_of b.value i ≡ unwrap_or (l.fixed i) 0
    value_at i below = ap (λ (n : LayoutNumbers). bit_of n.value i) same ∙ bit_of-number (λ i. unwrap_or (l.fixed i) 0) 32 (λ i _. small_value (l.fixed i) (binary.fixed i)) i below

    free_at : (i : ℕ) → i < 32 → bit_of b.free i ≡ cond (l.free i) 1 0
    free_at i below = ap (λ (n : LayoutNumbers). bit_of n.free i) same ∙ bit_of-number (λ i. cond (l.free i) 1 0) 32 (λ i _. small_free (l.free i)) i below

    default_at : (i : ℕ) → i < 32 → bit_of b.default i ≡ cond (l.free i) (l.default i) 0
    default_at i below = ap (λ (n : LayoutNumbers). bit_of n.default i) same ∙ bit_of-number (λ i. cond (l.free i) (l.default i) 0) 32 (λ i _. small_default (l.free i) (l.default i) (binary.default i)) i below

    fixed_is : (m v : ℕ) (o : Option ℕ) → m ≡ cond (is_none o) 0 1 → v ≡ unwrap_or o 0 → cond (m == 0) None (Some v) ≡ o
    fixed_is m v None em ev = ap (λ x. cond (x == 0) None (Some v)) em
    fixed_is m v (Some u) em ev = ap (λ x. cond (x == 0) None (Some v)) em ∙ ap Some ev

    free_is : (f : ℕ) (t : Bool) → f ≡ cond t 1 0 → (f == 1) ≡ t
    free_is f true e = ap (λ x. x == 1) e
    free_is f false e = ap (λ x. x == 1) e

    -- the masks are an account of the word's bits that agrees with the layout
    pub numbers-to : SameLayout (layout_of b) l
    numbers-to = record {
      fixed = λ i below. fixed_is (bit_of b.mask i) (bit_of b.value i) (l.fixed i) (mask_at i below) (value_at i below);
      free = λ i below. free_is (bit_of b.free i) (l.free i) (free_at i below);
      default = λ i below is. default_at i below ∙ ap (λ t. cond t (l.default i) 0) is;
    }
