-- What a member's mask and value say of one bit, and of a word.
use Rattle.std.proofs.Common.{◌≡◌, ◌≢◌, ◌∙◌, sym, ap, refl, ℕ, ◌<◌, ◌^◌, bit_and, ◌==◌, Bool, true, false, ◌&&◌, cond, Option, Some, None}
use Rattle.std.specs.Prelude.{is_some}
use Rattle.std.proofs.lemmas.Bool.Decides.{Decides-eqb}
use Rattle.spec_bits.specs.Bits.{bit_of}
use Rattle.spec_bits.specs.Pattern.{value_at, pattern_holds}
use Rattle.bit_pattern.specs.Digits.{digits_below}
use Rattle.bit_pattern.proofs.DigitLaws.{BitPair, free, fixed_0, fixed_1, BitPair-at}
use Rattle.bit_pattern.proofs.ValueLaws.{value_at-digits_below}
use Rattle.bit_pattern.proofs.HoldsLaws.{digits_hold}
use Rattle.spec_decode.specs.Bucket.{is_value, is_fixed, fixes_to}
use Rattle.insn_decode.specs.declared.member.Member.{Member}
use Rattle.insn_decode.specs.Members.{encoding_of}

pair_fixed : (m v : ℕ) → BitPair m v → (m == 1) ≡ is_some (cond (m == 0) None (Some v))
pair_fixed m v free = refl
pair_fixed m v fixed_0 = refl
pair_fixed m v fixed_1 = refl

pair_fixes : (u m v : ℕ) → BitPair m v → ((m == 1) && (v == u)) ≡ is_value u (cond (m == 0) None (Some v))
pair_fixes u m v free = refl
pair_fixes u m v fixed_0 = refl
pair_fixes u m v fixed_1 = refl

value_of : (m : Member) (i : ℕ) → i < 32 → value_at (digits_below m.mask m.value 32) i ≡ cond (bit_of m.mask i == 0) None (Some (bit_of m.value i))
value_of m i below = value_at-digits_below m.mask m.value 32 i m.value_in_mask below

pub member_fixed : (m : Member) (i : ℕ) → i < 32 → (bit_of m.mask i == 1) ≡ is_fixed i (encoding_of m)
unfolding is_fixed encoding_of
member_fixed m i below =
    pair_fixed (bit_of m.mask i) (bit_of m.value i) (BitPair-at m.mask m.value m.value_in_mask i) ∙ ap (λ (o : Option ℕ). is_some o) (sym (value_of m i below))

pub member_fixes : (m : Member) (i u : ℕ) → i < 32 → ((bit_of m.mask i == 1) && (bit_of m.value i == u)) ≡ fixes_to i u (encoding_of m)
unfolding fixes_to encoding_of
member_fixes m i u below =
    pair_fixes u (bit_of m.mask i) (bit_of m.value i) (BitPair-at m.mask m.value m.value_in_mask i) ∙ ap (is_value u) (sym (value_of m i below))

pub member_holds : (m : Member) (w : ℕ) → m.mask < 2 ^ 32 → (bit_and w m.mask == m.value) ≡ pattern_holds (encoding_of m).digits w
unfolding encoding_of
member_holds m w fits = digits_hold w m.mask m.value 32 fits m.value_in_mask

pub member_leaf : (m : Member) → (encoding_of m).leaf ≡ m.leaf.0
unfolding encoding_of
member_leaf m = refl

-- the two ways in which the test of a bit comes out

pub fixes_where : (m : Member) (i u b v : ℕ) → i < 32 → b ≡ bit_of m.mask i → b ≡ 1 → v ≡ bit_of m.value i → (v == u) ≡ fixes_to i u (encoding_of m)
fixes_where m i u b v below is one also =
    ap (λ x. x == u) also ∙ ap (λ x. (x == 1) && (bit_of m.value i == u)) (sym one ∙ is) ∙ member_fixes m i u below

not_one : (b : ℕ) (y : Bool) → b ≢ 1 → (b == 1) ≡ ((b == 1) && y)
not_one b y apart = go (b == 1) refl
  where
    go : (x : Bool) → (b == 1) ≡ x → x ≡ (x && y)
    go true e = absurd (apart ((Decides-eqb b 1).0 e))
    go false e = refl

pub free_of : (m : Member) (i u b : ℕ) → i < 32 → b ≡ bit_of m.mask i → b ≢ 1 → (b == 1) ≡ fixes_to i u (encoding_of m)
free_of m i u b below is apart =
    not_one b (bit_of m.value i == u) apart ∙ ap (λ x. (x == 1) && (bit_of m.value i == u)) is ∙ member_fixes m i u below
