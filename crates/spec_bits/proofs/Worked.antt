-- Worked values of the definitions, by computing them.
use Rattle.std.specs.Prelude.{◌≡◌, true, false, [], ◌∷◌, ◌++◌, replicate, codes, Some, None, Ok, Err, refl}
use Rattle.spec_bits.specs.Bits.{bit_of, slice}
use Rattle.spec_bits.specs.Pattern.{Zero, One, Either, pattern_holds, value_at, joined}
use Rattle.spec_bits.specs.PatternText.{Empty, BadChar, TooWide, Unquoted, pattern_in}
use Rattle.spec_bits.specs.Item.{Item, fixes, should_be, item_holds}

-- bits and slices of 0xd2800020, the word of `movz x0, #1`
low_bit : bit_of 0xd2800020 5 ≡ 1
low_bit = refl

immediate : slice 0xd2800020 5 16 ≡ 1
immediate = refl

-- texts that are patterns
quoted : pattern_in (codes "'100'") ≡ Ok (One ∷ Zero ∷ Zero ∷ [])
quoted = refl

bare : pattern_in (codes "10x") ≡ Ok (One ∷ Zero ∷ Either ∷ [])
bare = refl

spaced : pattern_in (codes "1 0") ≡ Ok (One ∷ Zero ∷ [])
spaced = refl

widest : pattern_in (replicate 128 120) ≡ Ok (replicate 128 Either)
widest = refl

-- texts that are not
open_quote : pattern_in (codes "'01") ≡ Err (Unquoted 0)
open_quote = refl

close_quote : pattern_in (codes "01'") ≡ Err (Unquoted 2)
close_quote = refl

lone_quote : pattern_in (codes "'") ≡ Err (Unquoted 0)
lone_quote = refl

nothing_quoted : pattern_in (codes "''") ≡ Err Empty
nothing_quoted = refl

nothing : pattern_in [] ≡ Err Empty
nothing = refl

spaces : pattern_in (codes "'  '") ≡ Err Empty
spaces = refl

bad_bare : pattern_in (codes "1a0") ≡ Err (BadChar 1)
bad_bare = refl

bad_quoted : pattern_in (codes "'1a'") ≡ Err (BadChar 2)
bad_quoted = refl

inner_quote : pattern_in (codes "'1'0'") ≡ Err (BadChar 2)
inner_quote = refl

upper_case : pattern_in (codes "1X") ≡ Err (BadChar 1)
upper_case = refl

too_wide : pattern_in (replicate 129 48) ≡ Err TooWide
too_wide = refl

too_wide_quoted : pattern_in (39 ∷ replicate 129 48 ++ 39 ∷ []) ≡ Err TooWide
too_wide_quoted = refl

bad_and_wide : pattern_in (replicate 200 48 ++ codes "z") ≡ Err (BadChar 200)
bad_and_wide = refl

-- patterns of numbers
first_is_highest : pattern_holds (One ∷ Zero ∷ Zero ∷ []) 4 ≡ true
first_is_highest = refl

higher_bits_free : pattern_holds (One ∷ Zero ∷ Either ∷ []) 0xfd ≡ true
higher_bits_free = refl

not_held : pattern_holds (One ∷ Zero ∷ Either ∷ []) 6 ≡ false
not_held = refl

value_of_first : value_at (One ∷ Zero ∷ Either ∷ []) 2 ≡ Some 1
value_of_first = refl

value_of_last : value_at (One ∷ Zero ∷ Either ∷ []) 0 ≡ None
value_of_last = refl

both_fix : joined (One ∷ Either ∷ Zero ∷ Either ∷ []) (One ∷ Zero ∷ Either ∷ Either ∷ []) ≡ Some (One ∷ Zero ∷ Zero ∷ Either ∷ [])
both_fix = refl

both_differ : joined (One ∷ Either ∷ []) (Zero ∷ Either ∷ []) ≡ None
both_differ = refl

-- the five bits 20..16 of `ldxr`, all should-be one, and bits 31..30, fixed
rs_of_ldxr : Item
rs_of_ldxr = record { name = None; start = 16; digits = replicate 5 One; marks = replicate 5 true }

size_of_ldxr : Item
size_of_ldxr = record { name = None; start = 30; digits = replicate 2 One; marks = replicate 2 false }

should_be_excludes_nothing : item_holds rs_of_ldxr 0xc8407c20 ≡ true
unfolding rs_of_ldxr
should_be_excludes_nothing = refl

should_be_one : should_be rs_of_ldxr 20 ≡ Some 1
unfolding rs_of_ldxr
should_be_one = refl

should_be_fixes_nothing : fixes rs_of_ldxr 20 ≡ None
unfolding rs_of_ldxr
should_be_fixes_nothing = refl

fixed_bit : fixes size_of_ldxr 31 ≡ Some 1
unfolding size_of_ldxr
fixed_bit = refl

outside : fixes size_of_ldxr 29 ≡ None
unfolding size_of_ldxr
outside = refl

fixed_excludes : item_holds size_of_ldxr 0x48407c20 ≡ false
unfolding size_of_ldxr
fixed_excludes = refl
