-- Digits that are printed are read back to their number.
use Rattle.std.proofs.Common.{◌≡◌, ◌∙◌, sym, ap, refl, ℕ, zero, suc, ◌+◌, ◌-◌, ◌*◌, ◌/◌, ◌%◌, ◌^◌, ◌<◌, ◌≤◌, ◌==◌, Bool, true, false, cond, ◌&&◌, nat_lt, nat_le, nat_eq, List, [], ◌∷◌, ◌++◌, length, replicate, drop, length-append, lit≤, Some, None, codes, decimal, arith, inl, inr}
use Rattle.std.specs.Option.{option_and_then}
use Rattle.std.specs.List.{starts_with, list_all}
use Rattle.std.specs.Fmt.{digits, digits_onto, digit_glyph}
use Rattle.std.proofs.Math.Nat.{pow-succ', pow-zero}
use Rattle.std.proofs.lemmas.Bool.{cases_lt, and_parts}
use Rattle.std.proofs.lemmas.Bool.Decides.{nat_tests}
use Rattle.spec_command.specs.Number.{digit_value, if_below, digit_in, number_behind, number_of_digits, number_below}
use Rattle.spec_lines.specs.Hex.{hex}

glyph_value : (d : ℕ) → d < 16 → digit_value (digit_glyph false d) ≡ Some d
glyph_value d h = elim (cases_lt d 10) [ inl low ↦ small low | inr high ↦ large high ]
  where
    small : d < 10 → digit_value (digit_glyph false d) ≡ Some d
    small low =
        let a : nat_lt d 10 ≡ true = grind (arith, nat_tests) in
        let b : nat_le 48 (48 + d) ≡ true = grind (arith, nat_tests) in
        let e : nat_le (48 + d) 57 ≡ true = grind (arith, nat_tests) in
        let f : 48 + d - 48 ≡ d = omega arith in
        rw (a, b, e) (ap Some f)

    large : 10 ≤ d → digit_value (digit_glyph false d) ≡ Some d
    large high =
        let a : nat_lt d 10 ≡ false = grind (arith, nat_tests) in
        let b : nat_le 48 (87 + d) ≡ true = grind (arith, nat_tests) in
        let e : nat_le (87 + d) 57 ≡ false = grind (arith, nat_tests) in
        let g : nat_le 97 (87 + d) ≡ true = grind (arith, nat_tests) in
        let i : nat_le (87 + d) 102 ≡ true = grind (arith, nat_tests) in
        let f : 87 + d - 97 + 10 ≡ d = omega arith in
        rw (a, b, e, g, i) (ap Some f)

glyph_in : (base d : ℕ) → base ≤ 16 → d < base → digit_in base (digit_glyph false d) ≡ Some d
glyph_in base d b h =
    let fits : nat_lt d base ≡ true = grind (arith, nat_tests) in
    ap (option_and_then (if_below base)) (glyph_value d (omega arith)) ∙ ap (λ v. cond v (Some d) None) fits

-- a base with what division by it comes to
module _ (base : ℕ) (most : base ≤ 16) (split : (n : ℕ) → base * (n / base) + n % base ≡ n) (low : (n : ℕ) → n % base < base) (smaller : (n k : ℕ) → n < base ^ suc k → n / base < base ^ k) where
  -- one digit more
  one_more : (before n : ℕ) (acc : List ℕ) → number_behind base before (digit_glyph false (n % base) ∷ acc) ≡ number_behind base (base * before + n % base) acc
  one_more before n acc = ap (option_and_then (λ digit. number_behind base (base * before + digit) acc)) (glyph_in base (n % base) most (low n))

  behind-onto : (k n : ℕ) (acc : List ℕ) → n < base ^ k → number_behind base 0 (digits_onto k base false n acc) ≡ number_behind base n acc
  behind-onto zero n acc h = let one : base ^ 0 ≡ 1 = pow-zero base in let z : n ≡ 0 = omega arith in rw z
  behind-onto (suc k) n acc h = go (n / base == 0) refl (behind-onto k (n / base) (digit_glyph false (n % base) ∷ acc) (smaller n k h))
    where
      go : (v : Bool) → (n / base == 0) ≡ v → number_behind base 0 (digits_onto k base false (n / base) (digit_glyph false (n % base) ∷ acc)) ≡ number_behind base (n / base) (digit_glyph false (n % base) ∷ acc)
          → number_behind base 0 (cond v (digit_glyph false (n % base) ∷ acc) (digits_onto k base false (n / base) (digit_glyph false (n % base) ∷ acc))) ≡ number_behind base n acc
      go true e later =
          let z : n / base ≡ 0 = grind (arith, nat_tests) in
          one_more 0 n acc ∙ ap (λ q. number_behind base (base * q + n % base) acc) (sym z) ∙ ap (λ m. number_behind base m acc) (split n)
      go false e later = later ∙ one_more (n / base) n acc ∙ ap (λ m. number_behind base m acc) (split n)

  pub digits_said : (n : ℕ) → n < base ^ 64 → number_behind base 0 (digits base false n) ≡ Some n
  unfolding digits
  digits_said n h = behind-onto 64 n [] h

some_digits : (base : ℕ) (text : List ℕ) → 0 < length text → number_of_digits base text ≡ number_behind base 0 text
some_digits base [] h = absurd (omega arith)
some_digits base (byte ∷ bytes) h = refl

ten_smaller : (n k : ℕ) → n < 10 ^ suc k → n / 10 < 10 ^ k
ten_smaller n k h = let e : n < 10 * 10 ^ k = rw (pow-succ' 10 k) at h in omega arith

sixteen_smaller : (n k : ℕ) → n < 16 ^ suc k → n / 16 < 16 ^ k
sixteen_smaller n k h = let e : n < 16 * 16 ^ k = rw (pow-succ' 16 k) at h in omega arith

-- ---- how many digits there are

-- there is at least one digit and there are no more than 64, and each is one
onto-length : (k base n : ℕ) (acc : List ℕ) → length acc ≤ length (digits_onto k base false n acc)
onto-length zero base n acc = omega arith
onto-length (suc k) base n acc = go (n / base == 0) (onto-length k base (n / base) (digit_glyph false (n % base) ∷ acc))
  where
    go : (v : Bool) → suc (length acc) ≤ length (digits_onto k base false (n / base) (digit_glyph false (n % base) ∷ acc)) → length acc ≤ length (cond v (digit_glyph false (n % base) ∷ acc) (digits_onto k base false (n / base) (digit_glyph false (n % base) ∷ acc)))
    go true h = omega arith
    go false h = omega arith

onto-few : (k base n : ℕ) (acc : List ℕ) → length (digits_onto k base false n acc) ≤ length acc + k
onto-few zero base n acc = omega arith
onto-few (suc k) base n acc = go (n / base == 0) (onto-few k base (n / base) (digit_glyph false (n % base) ∷ acc))
  where
    go : (v : Bool) → length (digits_onto k base false (n / base) (digit_glyph false (n % base) ∷ acc)) ≤ suc (length acc) + k → length (cond v (digit_glyph false (n % base) ∷ acc) (digits_onto k base false (n / base) (digit_glyph false (n % base) ∷ acc))) ≤ length acc + suc k
    go true h = omega arith
    go false h = omega arith

pub digits_few : (base n : ℕ) → length (digits base false n) ≤ 64
unfolding digits
digits_few base n = omega (arith, onto-few 64 base n [])

pub digits_some : (base n : ℕ) → 0 < length (digits base false n)
unfolding digits
digits_some base n = go (n / base == 0)
  where
    go : (v : Bool) → 0 < length (cond v (digit_glyph false (n % base) ∷ []) (digits_onto 63 base false (n / base) (digit_glyph false (n % base) ∷ [])))
    go true = omega arith
    go false = omega (arith, onto-length 63 base (n / base) (digit_glyph false (n % base) ∷ []))

-- ---- texts

-- digits of ten are below 58
abbrev is_low : ℕ → Bool
is_low byte = nat_lt byte 58

low_glyph : (d : ℕ) → d < 10 → is_low (digit_glyph false d) ≡ true
low_glyph d h =
    let a : nat_lt d 10 ≡ true = grind (arith, nat_tests) in
    let b : nat_lt (48 + d) 58 ≡ true = grind (arith, nat_tests) in
    rw (a, b)

onto-low : (k n : ℕ) (acc : List ℕ) → list_all is_low acc ≡ true → list_all is_low (digits_onto k 10 false n acc) ≡ true
onto-low zero n acc h = h
onto-low (suc k) n acc h =
    let more : list_all is_low (digit_glyph false (n % 10) ∷ acc) ≡ true = ap (λ v. v && list_all is_low acc) (low_glyph (n % 10) (omega arith)) ∙ h in
    go (n / 10 == 0) more (onto-low k (n / 10) (digit_glyph false (n % 10) ∷ acc) more)
  where
    go : (v : Bool) → list_all is_low (digit_glyph false (n % 10) ∷ acc) ≡ true → list_all is_low (digits_onto k 10 false (n / 10) (digit_glyph false (n % 10) ∷ acc)) ≡ true
        → list_all is_low (cond v (digit_glyph false (n % 10) ∷ acc) (digits_onto k 10 false (n / 10) (digit_glyph false (n % 10) ∷ acc))) ≡ true
    go true here later = here
    go false here later = later

pub decimal_low : (n : ℕ) → list_all is_low (decimal n) ≡ true
unfolding digits
decimal_low n = onto-low 64 n [] refl

-- so they begin with no `0x`
no_prefix : (text : List ℕ) → list_all is_low text ≡ true → starts_with nat_eq text (codes "0x") ≡ false
no_prefix [] h = refl
no_prefix (a ∷ []) h = go (nat_eq 48 a)
  where
    go : (v : Bool) → (v && false) ≡ false
    go true = refl
    go false = refl
no_prefix (a ∷ b ∷ text) h =
    let low = (and_parts (is_low b) (list_all is_low text) (and_parts (is_low a) (list_all is_low (b ∷ text)) h).1).0 in
    let other : nat_eq 120 b ≡ false = grind (arith, nat_tests) in
    go (nat_eq 48 a) other
  where
    go : (v : Bool) → nat_eq 120 b ≡ false → (v && (nat_eq 120 b && true)) ≡ false
    go true e = rw e
    go false e = refl

fits : (n : ℕ) → n < 2 ^ 32 → if_below (2 ^ 32) n ≡ Some n
fits n h = let low : nat_lt n (2 ^ 32) ≡ true = grind (arith, nat_tests) in rw low

-- a number in decimal
pub decimal_said : (n : ℕ) → n < 2 ^ 32 → number_below (2 ^ 32) (decimal n) ≡ Some n
decimal_said n h =
    let small : n < 10 ^ 64 = omega arith in
    let said : number_of_digits 10 (decimal n) ≡ Some n = some_digits 10 (decimal n) (digits_some 10 n) ∙ digits_said 10 (lit≤ tt) (λ m. omega arith) (λ m. omega arith) ten_smaller n small in
    ap (λ v. option_and_then (if_below (2 ^ 32)) (cond v (number_of_digits 16 (drop 2 (decimal n))) (number_of_digits 10 (decimal n)))) (no_prefix (decimal n) (decimal_low n))
    ∙ ap (option_and_then (if_below (2 ^ 32))) said ∙ fits n h

zeros : (k : ℕ) (ds : List ℕ) → number_behind 16 0 (replicate k 48 ++ ds) ≡ number_behind 16 0 ds
zeros zero ds = refl
zeros (suc k) ds = zeros k ds

pub hex_some : (width n : ℕ) → 0 < length (hex width n)
hex_some width n = omega (arith, length-append (replicate (width - length (digits 16 false n)) 48) (digits 16 false n), digits_some 16 n)

-- and in hexadecimal
pub hex_said : (width n : ℕ) → n < 2 ^ 32 → number_below (2 ^ 32) (codes "0x" ++ hex width n) ≡ Some n
hex_said width n h =
    let small : n < 16 ^ 64 = omega arith in
    let said : number_of_digits 16 (hex width n) ≡ Some n =
    some_digits 16 (hex width n) (hex_some width n) ∙ zeros (width - length (digits 16 false n)) (digits 16 false n) ∙ digits_said 16 (lit≤ tt) (λ m. omega arith) (λ m. omega arith) sixteen_smaller n small in
    ap (option_and_then (if_below (2 ^ 32))) said ∙ fits n h
