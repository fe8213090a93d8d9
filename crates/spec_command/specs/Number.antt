-- Numbers in command words and in lines: decimal digits, or `0x` and hexadecimal digits of either case. There is at least one
-- digit; zeros may stand in front, and there may be any number of digits. The rules are this project's own.
use Rattle.std.specs.Prelude.{ℕ, ◌+◌, ◌-◌, ◌*◌, Bool, ◌&&◌, nat_le, nat_lt, nat_eq, List, [], ◌∷◌, drop, codes, Option, Some, None, option_and_then, if◌then◌else◌}
use Rattle.std.specs.List.{starts_with}

-- a byte lies between two others, or is one of them
abbrev pub is_within : ℕ → ℕ → ℕ → Bool
is_within first last byte = nat_le first byte && nat_le byte last

-- `0` to `9`, `a` to `f`, and `A` to `F`
abbrev pub digit_value : ℕ → Option ℕ
digit_value byte =
    if is_within 48 57 byte then Some (byte - 48) else
    (if is_within 97 102 byte then Some (byte - 97 + 10) else
    (if is_within 65 70 byte then Some (byte - 65 + 10) else None))

-- a number, where it is below a bound
abbrev pub if_below : ℕ → ℕ → Option ℕ
if_below bound n = if nat_lt n bound then Some n else None

-- a digit of a base is below the base
abbrev pub digit_in : ℕ → ℕ → Option ℕ
digit_in base byte = option_and_then (if_below base) (digit_value byte)

-- the number of digits that stand behind others, whose number is `before`
abbrev pub number_behind : ℕ → ℕ → List ℕ → Option ℕ
number_behind base before [] = Some before
number_behind base before (byte ∷ bytes) = option_and_then (λ digit. number_behind base (base * before + digit) bytes) (digit_in base byte)

-- the number of digits, of which there is at least one
abbrev pub number_of_digits : ℕ → List ℕ → Option ℕ
number_of_digits base [] = None
number_of_digits base (byte ∷ bytes) = number_behind base 0 (byte ∷ bytes)

-- the number that a text says, if it says one
abbrev pub number_in : List ℕ → Option ℕ
number_in text = if starts_with nat_eq text (codes "0x") then number_of_digits 16 (drop 2 text) else number_of_digits 10 text

-- the same where it is below a bound
abbrev pub number_below : ℕ → List ℕ → Option ℕ
number_below bound text = option_and_then (if_below bound) (number_in text)
