-- Each word has a bucket: a bit that splits leaves leaves fewer of them.
use Rattle.std.proofs.Common.{◌≡◌, ◌≢◌, ◌∙◌, sym, refl, ◌⊎◌, inl, inr, ℕ, zero, suc, ◌<◌, ◌≤◌, Bool, true, false, cond, ◌||◌, List, [], ◌∷◌, length, Option, Some, None, arith}
use Rattle.std.specs.Prelude.{filter}
use Rattle.std.specs.List.{list_any}
use Rattle.std.proofs.lemmas.Bool.{cases_eq, ne_eqb}
use Rattle.std.proofs.lemmas.Bool.Decides.{Decides-eqb}
use Rattle.spec_bits.specs.Bits.{bit_of}
use Rattle.spec_bits.specs.Pattern.{value_at}
use Rattle.spec_decode.specs.Bucket.{Encoding, is_value, fixes_to, agreeing, next_bit, Bucket, stop, narrow}
use Rattle.spec_decode.specs.HasBucket.{WordsHaveBuckets}
use Rattle.spec_decode.proofs.BucketLaws.{Splits, next_bit_splits}

-- ---- fewer are left

module _ {X : Type 0} (p q : X → Bool) (apart : (x : X) → q x ≡ true → p x ≡ false) where
  no_more : (xs : List X) → length (filter p xs) ≤ length xs
  no_more [] = omega arith
  no_more (x ∷ xs) = go (p x) (no_more xs)
    where
      go : (b : Bool) → length (filter p xs) ≤ length xs → length (cond b (x ∷ filter p xs) (filter p xs)) ≤ suc (length xs)
      go true rest = omega (arith, rest)
      go false rest = omega (arith, rest)

  fewer : (xs : List X) → list_any q xs ≡ true → length (filter p xs) < length xs
  fewer [] none = absurd cc
  fewer (x ∷ xs) some = go (q x) refl (p x) refl some (no_more xs) (fewer xs)
    where
      go : (b : Bool) → q x ≡ b → (c : Bool) → p x ≡ c → (b || list_any q xs) ≡ true → length (filter p xs) ≤ length xs → (list_any q xs ≡ true → length (filter p xs) < length xs)
          → length (cond c (x ∷ filter p xs) (filter p xs)) < suc (length xs)
      go b is false other some all rest = omega (arith, all)
      go true is true other some all rest = absurd (let never : p x ≡ false = apart x is in cc (never, other))
      go false is true other some all rest = omega (arith, rest some)

other_value : (u v : ℕ) → u ≢ v → (o : Option ℕ) → is_value u o ≡ true → is_value v o ≡ false
other_value u v apart None is = absurd cc
other_value u v apart (Some a) is = let same : a ≡ u = (Decides-eqb a u).0 is in ne_eqb a v (λ e. apart (sym same ∙ e))

fixes_other : (i u v : ℕ) → u ≢ v → (e : Encoding) → fixes_to i u e ≡ true → fixes_to i v e ≡ false
unfolding fixes_to
fixes_other i u v apart e is = other_value u v apart (value_at e.digits i) is

-- those that agree with the word at a bit that splits are fewer
fewer_agree : (i v : ℕ) (es : List Encoding) → Splits i es → length (agreeing i v es) < length es
unfolding agreeing
fewer_agree i v es splits = go (cases_eq v 0)
  where
    go : (v ≡ 0) ⊎ (v ≢ 0) → length (filter (fixes_to i v) es) < length es
    go (inl is) = fewer (fixes_to i v) (fixes_to i 1) (fixes_other i 1 v (λ e. let no : 1 ≡ 0 = e ∙ is in absurd (omega (arith, no)))) es splits.one_too
    go (inr other) = fewer (fixes_to i v) (fixes_to i 0) (fixes_other i 0 v (λ e. other (sym e))) es splits.zero_too

-- ---- so it ends

module _ (w : ℕ) where
  ends : (n : ℕ) (es : List Encoding) → length es ≤ n → (out : List Encoding) × Bucket w out es
  ends zero es few = go (next_bit es) refl
    where
      go : (o : Option ℕ) → next_bit es ≡ o → (out : List Encoding) × Bucket w out es
      go None none = (es, stop es none refl)
      go (Some i) some = absurd (omega (arith, few, fewer_agree i (bit_of w i) es (next_bit_splits i es some).1))
  ends (suc n) es few = go (next_bit es) refl (λ i less. ends n (agreeing i (bit_of w i) es) less)
    where
      go : (o : Option ℕ) → next_bit es ≡ o → ((i : ℕ) → length (agreeing i (bit_of w i) es) ≤ n → (out : List Encoding) × Bucket w out (agreeing i (bit_of w i) es)) → (out : List Encoding) × Bucket w out es
      go None none rest = (es, stop es none refl)
      go (Some i) some rest =
          let found = rest i (omega (arith, few, fewer_agree i (bit_of w i) es (next_bit_splits i es some).1)) in
          (found.0, narrow es i some found.1)

pub words_have_buckets : WordsHaveBuckets
words_have_buckets w es = ends w (length es) es (omega arith)
