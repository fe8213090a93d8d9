-- Hexadecimal digits, the last one taken off.
use Rattle.std.proofs.Common.{◌≡◌, ℕ, zero, suc, ◌+◌, ◌-◌, ◌*◌, ◌/◌, ◌%◌, ◌^◌, ◌<◌, ◌≤◌, List, [], ◌∷◌, ◌++◌, length, replicate, Bool, true, false, cond, nat_eq, refl, sym, ap, ◌∙◌, arith, append_assoc, length-append, lit<, nat_lt, nat_le, ◌&&◌, inl, inr}
use Rattle.std.proofs.lemmas.Bool.{cases_lt}
use Rattle.std.proofs.lemmas.Bool.Decides.{nat_tests}
use Rattle.std.proofs.lemmas.List.{replicate-append-replicate}
use Rattle.std.proofs.Math.Nat.{pow-succ'}
use Rattle.std.specs.Fmt.{digits, digits_onto, digit_glyph}
use Rattle.spec_lines.specs.Hex.{hex}

abbrev onto : ℕ → ℕ → List ℕ → List ℕ
onto k n acc = digits_onto k 16 false n acc

acc_step : (b : Bool) (g : ℕ) (acc xs ys zs : List ℕ) → xs ≡ zs ++ g ∷ acc → ys ≡ zs ++ g ∷ [] → cond b (g ∷ acc) xs ≡ cond b (g ∷ []) ys ++ acc
acc_step true g acc xs ys zs e f = refl
acc_step false g acc xs ys zs e f = e ∙ sym (append_assoc zs (g ∷ []) acc) ∙ ap (λ l. l ++ acc) (sym f)

-- what stands behind the digits stays there
onto-acc : (k n : ℕ) (acc : List ℕ) → onto k n acc ≡ onto k n [] ++ acc
onto-acc zero n acc = refl
onto-acc (suc k) n acc = acc_step (nat_eq (n / 16) 0) (digit_glyph false (n % 16)) acc _ _ (onto k (n / 16) []) (onto-acc k (n / 16) _) (onto-acc k (n / 16) _)

small_quotient : (n k : ℕ) → n < 16 ^ suc (suc k) → n / 16 < 16 ^ suc k
small_quotient n k h = let e : n < 16 * 16 ^ suc k = rw (pow-succ' 16 (suc k)) at h in omega arith

no_quotient : (n : ℕ) → n < 16 → nat_eq (n / 16) 0 ≡ true
no_quotient n h = let z : n / 16 ≡ 0 = omega arith in rw z

some_quotient : (n : ℕ) → 16 ≤ n → nat_eq (n / 16) 0 ≡ false
some_quotient n h = grind arith

-- enough room gives the same digits
onto-room : (j k n : ℕ) (acc : List ℕ) → n < 16 ^ suc j → n < 16 ^ suc k → onto (suc j) n acc ≡ onto (suc k) n acc
onto-room zero zero n acc h g = refl
onto-room zero (suc k) n acc h g = rw (no_quotient n h)
onto-room (suc j) zero n acc h g = rw (no_quotient n g)
onto-room (suc j) (suc k) n acc h g = ap (cond (nat_eq (n / 16) 0) (digit_glyph false (n % 16) ∷ acc)) (onto-room j k (n / 16) _ (small_quotient n j h) (small_quotient n k g))

-- one digit alone
digits_last : (n : ℕ) → n < 16 → digits 16 false n ≡ digit_glyph false n ∷ []
unfolding digits
digits_last n h = let m : n % 16 ≡ n = omega arith in rw (no_quotient n h, m)

-- the digits before the last are those of a sixteenth
digits_more : (n : ℕ) → 16 ≤ n → n < 2 ^ 64 → digits 16 false n ≡ digits 16 false (n / 16) ++ digit_glyph false (n % 16) ∷ []
unfolding digits
digits_more n h g = rw (some_quotient n h) (onto-acc 63 (n / 16) _ ∙ ap (λ l. l ++ digit_glyph false (n % 16) ∷ []) (onto-room 62 63 (n / 16) [] (omega arith) (omega arith)))

replicate_last : (k : ℕ) → ◌++◌ {A = ℕ} (replicate k 48) (48 ∷ []) ≡ replicate (k + 1) 48
replicate_last k = replicate-append-replicate k 1 48

-- the last digit of a number that is to have one digit
hex_last : (n width : ℕ) → n < 16 → width ≤ 1 → hex width n ≡ digit_glyph false n ∷ []
hex_last n width h le = rw (digits_last n h) (let z : width - 1 ≡ 0 = omega arith in rw z)

-- the digits before the last
hex_long : (n width : ℕ) → 16 ≤ n → n < 2 ^ 64 → hex width n ≡ hex (width - 1) (n / 16) ++ digit_glyph false (n % 16) ∷ []
hex_long n width h g =
    let ds : List ℕ = digits 16 false (n / 16) in
    let e : digits 16 false n ≡ ds ++ digit_glyph false (n % 16) ∷ [] = digits_more n h g in
    let z : width - length (ds ++ digit_glyph false (n % 16) ∷ []) ≡ width - 1 - length ds = omega (arith, length-append ds (digit_glyph false (n % 16) ∷ [])) in
    rw (e, z) (sym (append_assoc (replicate (width - 1 - length ds) 48) ds (digit_glyph false (n % 16) ∷ [])))

-- a zero in front of a number of one digit
hex_padded : (n width : ℕ) → n < 16 → 1 < width → hex width n ≡ hex (width - 1) (n / 16) ++ digit_glyph false (n % 16) ∷ []
hex_padded n width h wide =
    let q : n / 16 ≡ 0 = omega arith in
    let m : n % 16 ≡ n = omega arith in
    let z : width - 1 ≡ width - 1 - 1 + 1 = omega arith in
    let g : ℕ = digit_glyph false n in
    let one : digits 16 false n ≡ g ∷ [] = digits_last n h in
    let none : digits 16 false 0 ≡ 48 ∷ [] = digits_last 0 (lit< tt) in
    let left : hex width n ≡ replicate (width - 1 - 1 + 1) 48 ++ g ∷ [] = rw one (ap (λ k. replicate k 48 ++ g ∷ []) z) in
    let right : hex (width - 1) (n / 16) ++ g ∷ [] ≡ replicate (width - 1 - 1 + 1) 48 ++ g ∷ [] = rw (q, none) (ap (λ l. l ++ g ∷ []) (replicate_last (width - 1 - 1))) in
    rw m (left ∙ sym right)

-- one digit alone, where the number and the width allow it
pub hex_one : (n width : ℕ) → (nat_lt n 16 && nat_le width 1) ≡ true → hex width n ≡ digit_glyph false (n % 16) ∷ []
hex_one n width h = let m : n % 16 ≡ n = grind (arith, nat_tests) in rw m (hex_last n width (grind (arith, nat_tests)) (grind (arith, nat_tests)))

-- else the digits before the last, and the last
pub hex_more : (n width : ℕ) → n < 2 ^ 64 → (nat_lt n 16 && nat_le width 1) ≡ false → hex width n ≡ hex (width - 1) (n / 16) ++ digit_glyph false (n % 16) ∷ []
hex_more n width g h = elim (cases_lt n 16) [ inl small ↦ hex_padded n width small (grind (arith, nat_tests)) | inr large ↦ hex_long n width large g ]
