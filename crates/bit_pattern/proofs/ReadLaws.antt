-- Counts of the digits of a text.
use Rattle.std.proofs.Common.{◌≡◌, sym, refl, ℕ, ◌+◌, cond, List, length, Option, Some, None, is_some, arith}
use Rattle.std.specs.Prelude.{filter_map, count_by}
use Rattle.std.specs.List.{cons_option}
use Rattle.std.proofs.lemmas.List.Recursion.{is_count_by}
use Rattle.spec_bits.specs.Pattern.{Digit}
use Rattle.spec_bits.specs.PatternText.{digit_of}

length-cons_option : (o : Option Digit) (ds : List Digit) → length (cons_option o ds) ≡ cond (is_some o) (1 + length ds) (length ds)
length-cons_option None ds = refl
length-cons_option (Some d) ds = omega arith

-- the bytes that write a digit are as many as the digits
pub digit_count_is : (bytes : List ℕ) → count_by (λ byte. is_some (digit_of byte)) bytes ≡ length (filter_map digit_of bytes)
digit_count_is bytes =
    sym (is_count_by (λ bs. length (filter_map digit_of bs)) (λ byte. is_some (digit_of byte)) refl (λ b bs. length-cons_option (digit_of b) (filter_map digit_of bs)) bytes)
