-- Bits that are joined part by part.
use Rattle.std.specs.Prelude.{List, ◌++◌, length, nat_le, if◌then◌else◌, Option, Some, None, option_map, option_and_then}
use Rattle.spec_bits.specs.Pattern.{Digit}
use Rattle.spec_expressions.specs.Truth as truth
use Rattle.spec_expressions.specs.Operations.{Value, ATruth, bits_or_open, digits_in_a_row, in_a_row}
use Rattle.bit_pattern.specs.Views.{digits_of}
use Rattle.ast_eval.specs.declared.row.Row.{Row}
use Rattle.ast_eval.specs.declared.row.Row.TheVariants.{Start, Bits, Open}

-- at most 128 digits
abbrev pub limited : Option (List Digit) → Option (List Digit)
limited row = option_and_then (λ ds. if nat_le (length ds) 128 then Some ds else None) row

-- the parts that were taken, and behind them values, as one value
abbrev pub joined_with : Row → List Value → Value
joined_with Start vs = in_a_row vs
joined_with (Bits p) vs = bits_or_open (limited (option_map (λ es. digits_of p ++ es) (digits_in_a_row vs)))
joined_with Open vs = ATruth truth.Open
