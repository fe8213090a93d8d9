-- Streams in pieces: the words and the rest of two parts in a row, the first of whole words.
use Rattle.std.proofs.Common.{◌≡◌, ℕ, suc, ◌+◌, ◌-◌, ◌*◌, ◌%◌, ◌<◌, ◌≤◌, List, [], ◌∷◌, ◌++◌, length, get_or, take, drop, refl, ap, arith}
use Rattle.std.proofs.lemmas.List.{take_rest}
use Rattle.std.specs.Int.{w32, from_le_bytes}
use Rattle.spec_lines.specs.Words.{words_in, rest_in}

-- a list of whole words
pub record IsWhole (xs : List ℕ) : Type 0 where
  pub count : ℕ
  pub size : length xs ≡ 4 * count

later_whole : (a b c d : ℕ) (xs : List ℕ) → IsWhole (a ∷ b ∷ c ∷ d ∷ xs) → IsWhole xs
later_whole a b c d xs h = record { count = h.count - 1; size = omega (arith, h.size) }

pub words_in-append : (xs ys : List ℕ) → IsWhole xs → words_in (xs ++ ys) ≡ words_in xs ++ words_in ys
words_in-append [] ys h = refl
words_in-append (a ∷ []) ys h = absurd (omega (arith, h.size))
words_in-append (a ∷ b ∷ []) ys h = absurd (omega (arith, h.size))
words_in-append (a ∷ b ∷ c ∷ []) ys h = absurd (omega (arith, h.size))
words_in-append (a ∷ b ∷ c ∷ d ∷ xs) ys h = ap (λ ws. from_le_bytes w32 (a ∷ b ∷ c ∷ d ∷ []) ∷ ws) (words_in-append xs ys (later_whole a b c d xs h))

pub rest_in-append : (xs ys : List ℕ) → IsWhole xs → rest_in (xs ++ ys) ≡ rest_in ys
rest_in-append [] ys h = refl
rest_in-append (a ∷ []) ys h = absurd (omega (arith, h.size))
rest_in-append (a ∷ b ∷ []) ys h = absurd (omega (arith, h.size))
rest_in-append (a ∷ b ∷ c ∷ []) ys h = absurd (omega (arith, h.size))
rest_in-append (a ∷ b ∷ c ∷ d ∷ xs) ys h = rest_in-append xs ys (later_whole a b c d xs h)

pub length-words_in : (xs : List ℕ) → IsWhole xs → 4 * length (words_in xs) ≡ length xs
length-words_in [] h = refl
length-words_in (a ∷ []) h = absurd (omega (arith, h.size))
length-words_in (a ∷ b ∷ []) h = absurd (omega (arith, h.size))
length-words_in (a ∷ b ∷ c ∷ []) h = absurd (omega (arith, h.size))
length-words_in (a ∷ b ∷ c ∷ d ∷ xs) h = omega (arith, length-words_in xs (later_whole a b c d xs h))

-- every list is its whole words and its rest
pub length-rest_in : (xs : List ℕ) → 4 * length (words_in xs) + length (rest_in xs) ≡ length xs
length-rest_in [] = refl
length-rest_in (a ∷ []) = refl
length-rest_in (a ∷ b ∷ []) = refl
length-rest_in (a ∷ b ∷ c ∷ []) = refl
length-rest_in (a ∷ b ∷ c ∷ d ∷ xs) = omega (arith, length-rest_in xs)

pub length_rest_in_lt : (xs : List ℕ) → length (rest_in xs) < 4
length_rest_in_lt [] = omega arith
length_rest_in_lt (a ∷ []) = omega arith
length_rest_in_lt (a ∷ b ∷ []) = omega arith
length_rest_in_lt (a ∷ b ∷ c ∷ []) = omega arith
length_rest_in_lt (a ∷ b ∷ c ∷ d ∷ xs) = length_rest_in_lt xs

-- the first word of four bytes and more, by their places
pub words_in-first : (xs : List ℕ) → 4 ≤ length xs → words_in xs ≡ from_le_bytes w32 (get_or xs 0 0 ∷ get_or xs 1 0 ∷ get_or xs 2 0 ∷ get_or xs 3 0 ∷ []) ∷ words_in (drop 4 xs)
words_in-first [] h = absurd (omega arith)
words_in-first (a ∷ []) h = absurd (omega arith)
words_in-first (a ∷ b ∷ []) h = absurd (omega arith)
words_in-first (a ∷ b ∷ c ∷ []) h = absurd (omega arith)
words_in-first (a ∷ b ∷ c ∷ d ∷ xs) h = refl

pub rest_in-first : (xs : List ℕ) → 4 ≤ length xs → rest_in xs ≡ rest_in (drop 4 xs)
rest_in-first [] h = absurd (omega arith)
rest_in-first (a ∷ []) h = absurd (omega arith)
rest_in-first (a ∷ b ∷ []) h = absurd (omega arith)
rest_in-first (a ∷ b ∷ c ∷ []) h = absurd (omega arith)
rest_in-first (a ∷ b ∷ c ∷ d ∷ xs) h = refl

-- fewer than four bytes
pub words_in-short : (xs : List ℕ) → length xs < 4 → words_in xs ≡ []
words_in-short [] h = refl
words_in-short (a ∷ []) h = refl
words_in-short (a ∷ b ∷ []) h = refl
words_in-short (a ∷ b ∷ c ∷ []) h = refl
words_in-short (a ∷ b ∷ c ∷ d ∷ xs) h = absurd (omega arith)

pub rest_in-short : (xs : List ℕ) → length xs < 4 → rest_in xs ≡ xs
rest_in-short [] h = refl
rest_in-short (a ∷ []) h = refl
rest_in-short (a ∷ b ∷ []) h = refl
rest_in-short (a ∷ b ∷ c ∷ []) h = refl
rest_in-short (a ∷ b ∷ c ∷ d ∷ xs) h = absurd (omega arith)

-- the rest stands behind as many bytes as make whole words
pub rest_in-drop : (xs : List ℕ) → drop (length xs - length xs % 4) xs ≡ rest_in xs
rest_in-drop [] = refl
rest_in-drop (a ∷ []) = refl
rest_in-drop (a ∷ b ∷ []) = refl
rest_in-drop (a ∷ b ∷ c ∷ []) = refl
rest_in-drop (a ∷ b ∷ c ∷ d ∷ xs) =
    let m : ℕ = length xs - length xs % 4 in
    let n : length (a ∷ b ∷ c ∷ d ∷ xs) - length (a ∷ b ∷ c ∷ d ∷ xs) % 4 ≡ suc (suc (suc (suc m))) = omega arith in
    rw n (rest_in-drop xs)

-- some first words of a list in two parts are those of the first part
pub words_in-front : (xs ys : List ℕ) → (vs : List ℕ) × (words_in (xs ++ ys) ≡ words_in xs ++ vs)
words_in-front [] ys = (words_in ys, refl)
words_in-front (a ∷ []) ys = (words_in (a ∷ ys), refl)
words_in-front (a ∷ b ∷ []) ys = (words_in (a ∷ b ∷ ys), refl)
words_in-front (a ∷ b ∷ c ∷ []) ys = (words_in (a ∷ b ∷ c ∷ ys), refl)
words_in-front (a ∷ b ∷ c ∷ d ∷ xs) ys = let rest = words_in-front xs ys in (rest.0, ap (λ ws. from_le_bytes w32 (a ∷ b ∷ c ∷ d ∷ []) ∷ ws) rest.1)

pub rest_taken : (xs : List ℕ) → take (length xs - (length xs - length xs % 4)) (drop (length xs - length xs % 4) xs) ≡ rest_in xs
rest_taken xs = rw (take_rest xs (length xs - length xs % 4)) (rest_in-drop xs)

pub rest_offset : (xs : List ℕ) → length xs - length (rest_in xs) ≡ 4 * length (words_in xs)
rest_offset xs = omega (arith, length-rest_in xs)
