-- The digits of a number, two for each byte.
use Rattle.std.proofs.Common.{◌≡◌, ℕ, ◌+◌, ◌-◌, ◌*◌, ◌/◌, ◌%◌, ◌^◌, ◌<◌, ◌≤◌, List, [], ◌∷◌, ◌++◌, get_or, Bool, true, false, ◌&&◌, nat_eq, nat_lt, nat_le, refl, sym, ap, ◌∙◌, arith, append_assoc, true≢false}
use Rattle.std.proofs.lemmas.Bool.Decides.{nat_tests}
use Rattle.std.specs.Prelude.{codes, slice_index_or}
use Rattle.std.specs.List.{list_all, range_with_len}
use Rattle.std.proofs.lemmas.List.Folds.{list_all_at}
use Rattle.std.proofs.lemmas.List.FromFn.{get_or-range_with_len}
use Rattle.std.specs.Fmt.{digit_glyph}
use Rattle.spec_lines.specs.Hex.{hex}
use Rattle.spec_lines.proofs.Digits.{hex_one, hex_more}

-- the last two digits of a number behind the others
pub hex_pair : (width n : ℕ) → 1 ≤ width → n < 2 ^ 64 → hex (width + 2) n ≡ hex width (n / 256) ++ digit_glyph false (n / 16 % 16) ∷ digit_glyph false (n % 16) ∷ []
hex_pair width n some low =
    let wide : (nat_lt n 16 && nat_le (width + 2) 1) ≡ false = grind (arith, nat_tests) in
    let less : (nat_lt (n / 16) 16 && nat_le (width + 1) 1) ≡ false = grind (arith, nat_tests) in
    let one : width + 2 - 1 ≡ width + 1 = omega arith in
    let two : width + 1 - 1 ≡ width = omega arith in
    let quarter : n / 16 / 16 ≡ n / 256 = omega arith in
    let last : hex (width + 2) n ≡ hex (width + 1) (n / 16) ++ digit_glyph false (n % 16) ∷ [] = hex_more n (width + 2) low wide ∙ ap (λ k. hex k (n / 16) ++ digit_glyph false (n % 16) ∷ []) one in
    let before : hex (width + 1) (n / 16) ≡ hex width (n / 256) ++ digit_glyph false (n / 16 % 16) ∷ [] = hex_more (n / 16) (width + 1) (omega arith) less ∙ ap (λ k. hex k (n / 16 / 16) ++ digit_glyph false (n / 16 % 16) ∷ []) two ∙ ap (λ q. hex width q ++ digit_glyph false (n / 16 % 16) ∷ []) quarter in
    last ∙ ap (λ front. front ++ digit_glyph false (n % 16) ∷ []) before ∙ append_assoc (hex width (n / 256)) (digit_glyph false (n / 16 % 16) ∷ []) (digit_glyph false (n % 16) ∷ [])

-- two digits alone
pub hex_two : (n : ℕ) → n < 256 → hex 2 n ≡ digit_glyph false (n / 16) ∷ digit_glyph false (n % 16) ∷ []
hex_two n small =
    let wide : (nat_lt n 16 && nat_le 2 1) ≡ false = grind (arith, nat_tests) in
    let one : (nat_lt (n / 16) 16 && nat_le 1 1) ≡ true = grind (arith, nat_tests) in
    let same : n / 16 % 16 ≡ n / 16 = omega arith in
    hex_more n 2 (omega arith) wide ∙ ap (λ front. front ++ digit_glyph false (n % 16) ∷ []) (hex_one (n / 16) 1 one ∙ ap (λ k. digit_glyph false k ∷ []) same)

-- the last byte's digits behind the others
pub hex_byte : (width n : ℕ) → 1 ≤ width → n < 2 ^ 64 → hex (width + 2) n ≡ hex width (n / 256) ++ hex 2 (n % 256)
hex_byte width n some low =
    let high : n % 256 / 16 ≡ n / 16 % 16 = omega arith in
    let same : n % 256 % 16 ≡ n % 16 = omega arith in
    let pair : hex 2 (n % 256) ≡ digit_glyph false (n / 16 % 16) ∷ digit_glyph false (n % 16) ∷ [] = hex_two (n % 256) (omega arith) ∙ ap (λ k. digit_glyph false k ∷ digit_glyph false (n % 256 % 16) ∷ []) high ∙ ap (λ k. digit_glyph false (n / 16 % 16) ∷ digit_glyph false k ∷ []) same in
    hex_pair width n some low ∙ ap (λ end. hex width (n / 256) ++ end) (sym pair)

-- four bytes
pub hex_eight : (n : ℕ) → n < 2 ^ 32 → hex 8 n ≡ hex 2 (n / 2 ^ 24 % 256) ++ (hex 2 (n / 2 ^ 16 % 256) ++ (hex 2 (n / 2 ^ 8 % 256) ++ hex 2 (n % 256)))
hex_eight n low =
    let q : n / 256 / 256 ≡ n / 2 ^ 16 = omega arith in
    let r : n / 2 ^ 16 / 256 ≡ n / 2 ^ 24 % 256 = omega arith in
    let a : hex 8 n ≡ hex 6 (n / 256) ++ hex 2 (n % 256) = hex_byte 6 n (omega arith) (omega arith) in
    let b : hex 6 (n / 256) ≡ hex 4 (n / 256 / 256) ++ hex 2 (n / 256 % 256) = hex_byte 4 (n / 256) (omega arith) (omega arith) in
    let c : hex 4 (n / 2 ^ 16) ≡ hex 2 (n / 2 ^ 16 / 256) ++ hex 2 (n / 2 ^ 16 % 256) = hex_byte 2 (n / 2 ^ 16) (omega arith) (omega arith) in
    let d : hex 4 (n / 256 / 256) ≡ hex 2 (n / 2 ^ 24 % 256) ++ hex 2 (n / 2 ^ 16 % 256) = ap (hex 4) q ∙ c ∙ ap (λ k. hex 2 k ++ hex 2 (n / 2 ^ 16 % 256)) r in
    a ∙ ap (λ front. front ++ hex 2 (n % 256)) (b ∙ ap (λ front. front ++ hex 2 (n / 256 % 256)) d)
    ∙ append_assoc (hex 2 (n / 2 ^ 24 % 256) ++ hex 2 (n / 2 ^ 16 % 256)) (hex 2 (n / 256 % 256)) (hex 2 (n % 256))
    ∙ append_assoc (hex 2 (n / 2 ^ 24 % 256)) (hex 2 (n / 2 ^ 16 % 256)) (hex 2 (n / 256 % 256) ++ hex 2 (n % 256))

-- ---- the digits as a table

abbrev pub pairs : List ℕ
pairs = codes "000102030405060708090a0b0c0d0e0f101112131415161718191a1b1c1d1e1f202122232425262728292a2b2c2d2e2f303132333435363738393a3b3c3d3e3f404142434445464748494a4b4c4d4e4f505152535455565758595a5b5c5d5e5f606162636465666768696a6b6c6d6e6f707172737475767778797a7b7c7d7e7f808182838485868788898a8b8c8d8e8f909192939495969798999a9b9c9d9e9fa0a1a2a3a4a5a6a7a8a9aaabacadaeafb0b1b2b3b4b5b6b7b8b9babbbcbdbebfc0c1c2c3c4c5c6c7c8c9cacbcccdcecfd0d1d2d3d4d5d6d7d8d9dadbdcdddedfe0e1e2e3e4e5e6e7e8e9eaebecedeeeff0f1f2f3f4f5f6f7f8f9fafbfcfdfeff"

abbrev are_in_place : ℕ → Bool
are_in_place b = nat_eq (slice_index_or pairs (b * 2) 0) (digit_glyph false (b / 16)) && nat_eq (slice_index_or pairs (b * 2 + 1) 0) (digit_glyph false (b % 16))

pub pair_in_place : (b : ℕ) → b < 256 → are_in_place b ≡ true
pair_in_place b h =
    let all : list_all are_in_place (range_with_len 0 256) ≡ true = refl in
    go (are_in_place b) refl all
  where
    there : (t : Bool) → are_in_place b ≡ t → are_in_place (get_or (range_with_len 0 256) b 0) ≡ t
    there t e = let same : 0 + b ≡ b = omega arith in ap are_in_place (get_or-range_with_len 0 256 b 0 h ∙ same) ∙ e

    go : (t : Bool) → are_in_place b ≡ t → list_all are_in_place (range_with_len 0 256) ≡ true → are_in_place b ≡ true
    go true e all = e
    go false e all = absurd (true≢false (sym all ∙ list_all_at are_in_place (range_with_len 0 256) b 0 h (there false e)))

pub pair_digits : (b : ℕ) → b < 256 → slice_index_or pairs (b * 2) 0 ∷ slice_index_or pairs (b * 2 + 1) 0 ∷ [] ≡ hex 2 b
pair_digits b h =
    let at : are_in_place b ≡ true = pair_in_place b h in
    let first : slice_index_or pairs (b * 2) 0 ≡ digit_glyph false (b / 16) = grind (arith, nat_tests) in
    let second : slice_index_or pairs (b * 2 + 1) 0 ≡ digit_glyph false (b % 16) = grind (arith, nat_tests) in
    ap (λ k. k ∷ slice_index_or pairs (b * 2 + 1) 0 ∷ []) first ∙ ap (λ k. digit_glyph false (b / 16) ∷ k ∷ []) second ∙ sym (hex_two b h)

-- ---- the digits of four bytes, side by side

both : (b : ℕ) (ds : List ℕ) → b < 256 → ds ≡ hex 2 b → slice_index_or ds 0 0 ∷ slice_index_or ds 1 0 ∷ [] ≡ hex 2 b
both b ds h e = let two : ds ≡ digit_glyph false (b / 16) ∷ digit_glyph false (b % 16) ∷ [] = e ∙ hex_two b h in rw two (sym (hex_two b h))

pub eight_are : (n : ℕ) (ps qs rs ss : List ℕ) → n < 2 ^ 32 → ps ≡ hex 2 (n / 2 ^ 24 % 256) → qs ≡ hex 2 (n / 2 ^ 16 % 256) → rs ≡ hex 2 (n / 2 ^ 8 % 256) → ss ≡ hex 2 (n % 256)
    → slice_index_or ps 0 0 ∷ slice_index_or ps 1 0 ∷ slice_index_or qs 0 0 ∷ slice_index_or qs 1 0 ∷ slice_index_or rs 0 0 ∷ slice_index_or rs 1 0 ∷ slice_index_or ss 0 0 ∷ slice_index_or ss 1 0 ∷ [] ≡ hex 8 n
eight_are n ps qs rs ss low a b c d =
    ap (λ front. front ++ (slice_index_or qs 0 0 ∷ slice_index_or qs 1 0 ∷ slice_index_or rs 0 0 ∷ slice_index_or rs 1 0 ∷ slice_index_or ss 0 0 ∷ slice_index_or ss 1 0 ∷ [])) (both (n / 2 ^ 24 % 256) ps (omega arith) a)
    ∙ ap (λ next. hex 2 (n / 2 ^ 24 % 256) ++ (next ++ (slice_index_or rs 0 0 ∷ slice_index_or rs 1 0 ∷ slice_index_or ss 0 0 ∷ slice_index_or ss 1 0 ∷ []))) (both (n / 2 ^ 16 % 256) qs (omega arith) b)
    ∙ ap (λ next. hex 2 (n / 2 ^ 24 % 256) ++ (hex 2 (n / 2 ^ 16 % 256) ++ (next ++ (slice_index_or ss 0 0 ∷ slice_index_or ss 1 0 ∷ [])))) (both (n / 2 ^ 8 % 256) rs (omega arith) c)
    ∙ ap (λ next. hex 2 (n / 2 ^ 24 % 256) ++ (hex 2 (n / 2 ^ 16 % 256) ++ (hex 2 (n / 2 ^ 8 % 256) ++ next))) (both (n % 256) ss (omega arith) d)
    ∙ sym (hex_eight n low)
