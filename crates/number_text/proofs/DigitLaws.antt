-- Digits whose number has passed a bound.
use Rattle.std.proofs.Common.{◌≡◌, ℕ, ◌+◌, ◌*◌, ◌≤◌, ◌<◌, List, [], ◌∷◌, length, drop, get_or, sym, ◌∙◌, ap, Option, Some, None, refl, arith}
use Rattle.std.specs.Option.{option_and_then}
use Rattle.std.proofs.lemmas.Bool.Decides.{nat_tests}
use Rattle.std.proofs.lemmas.List.{drop_more}
use Rattle.spec_command.specs.Number.{if_below, digit_in, number_of_digits, number_behind}

grows : (base before digit bound : ℕ) → 2 ≤ base → bound ≤ before → bound ≤ base * before + digit
grows base before digit bound h g = grind arith

-- the number of digits behind a number that is not below a bound is not below it
stays_above : (base before bound : ℕ) (bytes : List ℕ) → 2 ≤ base → bound ≤ before → option_and_then (if_below bound) (number_behind base before bytes) ≡ None
stays_above base before bound [] h g = grind (arith, nat_tests)
stays_above base before bound (byte ∷ bytes) h g = go (digit_in base byte) (λ after le. stays_above base after bound bytes h le)
  where
    go : (d : Option ℕ) → ((after : ℕ) → bound ≤ after → option_and_then (if_below bound) (number_behind base after bytes) ≡ None)
        → option_and_then (if_below bound) (option_and_then (λ digit. number_behind base (base * before + digit) bytes) d) ≡ None
    go None later = refl
    go (Some digit) later = later (base * before + digit) (grows base before digit bound h g)

-- so once it is not below the bound, no digits behind help
none_behind : (base bound number : ℕ) (bytes : List ℕ) → 2 ≤ base → if_below bound number ≡ None → option_and_then (if_below bound) (number_behind base number bytes) ≡ None
none_behind base bound number bytes h none = stays_above base number bound bytes h (grind (arith, nat_tests))

some_digits : (base : ℕ) (text : List ℕ) (i : ℕ) → i < length text → number_of_digits base text ≡ number_behind base 0 text
some_digits base [] i h = absurd (omega arith)
some_digits base (byte ∷ bytes) i h = refl

-- behind some digits, one with which their number is not below the bound
pub refused : (base bound number digit i : ℕ) (text : List ℕ) → 2 ≤ base → i < length text → Some digit ≡ digit_in base (get_or text i 0) → None ≡ if_below bound (base * number + digit)
    → option_and_then (if_below bound) (number_behind base number (drop i text)) ≡ option_and_then (if_below bound) (number_behind base 0 text)
    → None ≡ option_and_then (if_below bound) (number_of_digits base text)
refused base bound number digit i text h lt is none left =
    sym (none_behind base bound (base * number + digit) (drop (i + 1) text) h (sym none))
    ∙ ap (λ d. option_and_then (if_below bound) (option_and_then (λ digit. number_behind base (base * number + digit) (drop (i + 1) text)) d)) is
    ∙ ap (λ l. option_and_then (if_below bound) (number_behind base number l)) (sym (drop_more text i 0 lt))
    ∙ left
    ∙ ap (option_and_then (if_below bound)) (sym (some_digits base text i lt))
