-- Parts of bits, and bits compared, where some of them may be `x`.
use Rattle.std.specs.Prelude.{ℕ, ◌-◌, ◌==◌, nat_le, nat_lt, ℤ, pos, negsuc, List, length, slice_range, ◌&&◌, if◌then◌else◌, Option, Some, None, is_some, unwrap_or, option_map}
use Rattle.std.specs.List.{list_all}
use Rattle.spec_bits.specs.Pattern.{Digit, digit_holds, pattern_holds}
pub use Rattle.spec_bits.specs.Number.{low_digits, number_of}
use Rattle.spec_expressions.specs.Truth.{Truth, Open, truth_of}

-- of digits without `x`, whether each is that bit; else Open
abbrev pub each_is : ℕ → List Digit → Truth
each_is bit ds = if is_some (number_of ds) then truth_of (list_all (λ d. digit_holds d bit) ds) else Open

-- whether digits, as a pattern, hold of others, where those are without `x`
abbrev pub hold_of : List Digit → List Digit → Option Truth
hold_of ds es = option_map (λ n. truth_of (pattern_holds ds n)) (number_of es)

-- of one width, and one of them without `x`: whether the other's pattern holds of it; else Open
abbrev pub equal_digits : List Digit → List Digit → Truth
equal_digits ds es = if length ds == length es then unwrap_or (hold_of es ds) (unwrap_or (hold_of ds es) Open) else Open

-- the digits for the bits from the high one down to the low one, where 0 <= low <= high and high is below the number of digits
abbrev pub digits_between : ℤ → ℤ → List Digit → Option (List Digit)
digits_between (pos high) (pos low) ds = if nat_le low high && nat_lt high (length ds) then Some (slice_range ds (length ds - 1 - high) (length ds - low)) else None
digits_between (pos high) (negsuc low) ds = None
digits_between (negsuc high) low ds = None
