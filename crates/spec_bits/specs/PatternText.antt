-- How a text is read as a pattern, or why it is none. The rule is this project's own; the texts are those of Arm's pseudocode, `'10x'`, with or without quotes.
use Rattle.std.specs.Prelude.{ℕ, ◌+◌, ◌-◌, Bool, not, ◌&&◌, ◌==◌, nat_lt, nat_le, List, length, slice_index, slice_range, Option, Some, None, is_none, option_map, position, filter_map, Result, Ok, Err, if◌then◌else◌}
use Rattle.spec_bits.specs.Pattern.{Digit, Zero, One, Either}

-- why a text is no pattern; `at` counts the text's bytes from 0
pub data PatternRefusal : Type 0 where
  Empty : PatternRefusal
  BadChar : (at : ℕ) → PatternRefusal
  TooWide : PatternRefusal
  Unquoted : (at : ℕ) → PatternRefusal

-- the digit that a byte writes: `0`, `1` or `x`
abbrev pub digit_of : ℕ → Option Digit
digit_of byte = if byte == 48 then Some Zero else (if byte == 49 then Some One else (if byte == 120 then Some Either else None))

-- a byte is neither a space nor a digit
abbrev pub is_foreign : ℕ → Bool
is_foreign byte = not (byte == 32) && is_none (digit_of byte)

-- 1 to 128 digits are a pattern, where no foreign byte stands among them
abbrev pub digits_judged : Option ℕ → List Digit → Result (List Digit) PatternRefusal
digits_judged (Some at) digits = Err (BadChar at)
digits_judged None digits = if nat_lt 128 (length digits) then Err TooWide else (if length digits == 0 then Err Empty else Ok digits)

-- what `bytes`, which begin at place `start` of the text, say without quotes: spaces are skipped, and the first foreign byte is refused at its place in the text
abbrev pub unquoted : ℕ → List ℕ → Result (List Digit) PatternRefusal
unquoted start bytes = digits_judged (option_map (λ k. start + k) (position is_foreign bytes)) (filter_map digit_of bytes)

-- the text's first byte is a quote, `'`; its last byte is
abbrev pub opens : List ℕ → Bool
opens text = slice_index text 0 == 39

abbrev pub closes : List ℕ → Bool
closes text = slice_index text (length text - 1) == 39

-- A text that begins with a quote has at least two bytes and ends in a quote, and one that does not begin with one does not end in one.
-- The pattern is what stands between the quotes, or in the whole text.
abbrev pub pattern_in : List ℕ → Result (List Digit) PatternRefusal
pattern_in text =
    if opens text then (if nat_le 2 (length text) && closes text then unquoted 1 (slice_range text 1 (length text - 1)) else Err (Unquoted 0))
    else (if closes text then Err (Unquoted (length text - 1)) else unquoted 0 text)
