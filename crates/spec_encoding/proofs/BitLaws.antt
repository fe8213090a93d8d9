-- Laws of the highest bit that passes, and of numbers by their bits.
use Rattle.std.proofs.Common.{◌≡◌, ◌≢◌, ◌∙◌, sym, ap, refl, ℕ, zero, suc, ◌+◌, ◌-◌, ◌*◌, ◌^◌, ◌<◌, Bool, true, false, cond, Option, Some, None, arith, ◌⊎◌, inl, inr}
use Rattle.std.proofs.lemmas.Bool.{cases_eq}
use Rattle.std.proofs.Math.Nat.{pow-suc}
use Rattle.std.proofs.lemmas.Nat.Bits.{bit_at_cat_low, bit_at_cat_high, same_from_bits_below}
use Rattle.spec_bits.specs.Bits.{bit_of}
use Rattle.spec_encoding.specs.Parts.{highest, number_of_bits}

-- tests that agree below n have one highest bit
pub highest-same : (f g : ℕ → Bool) (n : ℕ) → ((i : ℕ) → i < n → f i ≡ g i) → highest f n ≡ highest g n
unfolding highest
highest-same f g zero same = refl
highest-same f g (suc n) same =
    ap (λ b. cond b (Some n) (highest f n)) (same n (omega arith)) ∙ ap (λ o. cond (g n) (Some n) o) (highest-same f g n (λ i below. same i (omega arith)))

-- there is none exactly where no bit passes
pub highest-none : (f : ℕ → Bool) (n : ℕ) → ((i : ℕ) → i < n → f i ≡ false) → highest f n ≡ None
unfolding highest
highest-none f zero fails = refl
highest-none f (suc n) fails = ap (λ b. cond b (Some n) (highest f n)) (fails n (omega arith)) ∙ highest-none f n (λ i below. fails i (omega arith))

pub none-highest : (f : ℕ → Bool) (n : ℕ) → highest f n ≡ None → (i : ℕ) → i < n → f i ≡ false
unfolding highest
none-highest f zero h i below = absurd (omega arith)
none-highest f (suc n) h i below = go (λ r. none-highest f n r i) (f n) refl (highest f n) refl h (cases_eq i n)
  where
    go : (highest f n ≡ None → i < n → f i ≡ false) → (b : Bool) → f n ≡ b → (o : Option ℕ) → highest f n ≡ o → cond b (Some n) o ≡ None → (i ≡ n) ⊎ (i ≢ n) → f i ≡ false
    go further true e o r k c = absurd (cc)
    go further false e o r k (inl here) = ap f here ∙ e
    go further false e o r k (inr apart) = further (r ∙ k) (omega arith)

-- the highest of the bits that pass
pub highest-is : (f : ℕ → Bool) (n k : ℕ) → k < n → f k ≡ true → ((i : ℕ) → k < i → i < n → f i ≡ false) → highest f n ≡ Some k
unfolding highest
highest-is f zero k below passes above = absurd (omega arith)
highest-is f (suc n) k below passes above = go (λ lower. highest-is f n k lower passes (λ i a b. above i a (omega arith))) (cases_eq k n)
  where
    go : (k < n → highest f n ≡ Some k) → (k ≡ n) ⊎ (k ≢ n) → cond (f n) (Some n) (highest f n) ≡ Some k
    go further (inl here) = ap (λ b. cond b (Some n) (highest f n)) (ap f (sym here) ∙ passes) ∙ ap Some (sym here)
    go further (inr apart) = ap (λ b. cond b (Some n) (highest f n)) (above n (omega arith) (omega arith)) ∙ further (omega arith)

-- a number of bits is below the power, and has these bits
pub number_of_bits-lt : (bit : ℕ → ℕ) (n : ℕ) → ((i : ℕ) → i < n → bit i < 2) → number_of_bits bit n < 2 ^ n
unfolding number_of_bits
number_of_bits-lt bit zero small = omega arith
number_of_bits-lt bit (suc n) small = step (bit n) (number_of_bits bit n) (small n (omega arith)) (number_of_bits-lt bit n (λ i below. small i (omega arith)))
  where
    step : (b m : ℕ) → b < 2 → m < 2 ^ n → b * 2 ^ n + m < 2 ^ suc n
    step zero m hb hm = grind (arith, pow-suc)
    step (suc zero) m hb hm = grind (arith, pow-suc)
    step (suc (suc b)) m hb hm = absurd (omega arith)

pub bit_of-number : (bit : ℕ → ℕ) (n : ℕ) → ((i : ℕ) → i < n → bit i < 2) → (i : ℕ) → i < n → bit_of (number_of_bits bit n) i ≡ bit i
unfolding number_of_bits
bit_of-number bit zero small i below = absurd (omega arith)
bit_of-number bit (suc n) small i below = go (λ lower. bit_of-number bit n (λ k b. small k (omega (arith, b))) i lower) (cases_eq i n)
  where
    fewer : (i : ℕ) → i < n → bit i < 2
    fewer i b = small i (omega arith)

    go : (i < n → bit_of (number_of_bits bit n) i ≡ bit i) → (i ≡ n) ⊎ (i ≢ n) → bit_of (bit n * 2 ^ n + number_of_bits bit n) i ≡ bit i
    go further (inl here) =
        let same : i - n ≡ 0 = omega arith in
        bit_at_cat_high (bit n) n (number_of_bits bit n) i (number_of_bits-lt bit n fewer) (omega arith) ∙ ap (bit_of (bit n)) same ∙ lowest (bit n) (small n (omega arith)) ∙ ap bit (sym here)
      where
        lowest : (b : ℕ) → b < 2 → bit_of b 0 ≡ b
        lowest zero h = refl
        lowest (suc zero) h = refl
        lowest (suc (suc b)) h = absurd (omega arith)
    go further (inr apart) =
        let lower : i < n = omega arith in
        bit_at_cat_low (bit n) n (number_of_bits bit n) i lower ∙ further lower

-- a number below the power is that of its bits
pub number-is : (bit : ℕ → ℕ) (n w : ℕ) → ((i : ℕ) → i < n → bit i < 2) → w < 2 ^ n → ((i : ℕ) → i < n → bit i ≡ bit_of w i) → number_of_bits bit n ≡ w
number-is bit n w small fits same =
    same_from_bits_below n (number_of_bits bit n) w (number_of_bits-lt bit n small) fits (λ i below. bit_of-number bit n small i below ∙ same i below)
