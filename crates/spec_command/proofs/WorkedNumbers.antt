-- Worked values: numbers.
use Rattle.std.specs.Prelude.{◌≡◌, [], ◌++◌, replicate, Some, None, codes, refl}
use Rattle.spec_command.specs.Number.{digit_value, number_in, number_below}

decimal_number : number_in (codes "4096") ≡ Some 4096
decimal_number = refl

zero_number : number_in (codes "0") ≡ Some 0
zero_number = refl

hexadecimal_number : number_in (codes "0xd503201f") ≡ Some 3573751839
hexadecimal_number = refl

either_case : number_in (codes "0xaAfF09") ≡ Some 11206409
either_case = refl

zeros_in_front : number_in (codes "0007") ≡ Some 7
zeros_in_front = refl

zeros_in_front_of_hexadecimal : number_in (codes "0x0007") ≡ Some 7
zeros_in_front_of_hexadecimal = refl

-- any number of digits
thousand_zeros : number_in (replicate 1000 48 ++ codes "7") ≡ Some 7
thousand_zeros = refl

large_number : number_in (codes "340282366920938463463374607431768211456") ≡ Some 340282366920938463463374607431768211456
large_number = refl

no_digit : number_in [] ≡ None
no_digit = refl

prefix_alone : number_in (codes "0x") ≡ None
prefix_alone = refl

prefix_in_upper_case : number_in (codes "0X1") ≡ None
prefix_in_upper_case = refl

prefix_twice : number_in (codes "0x0x1") ≡ None
prefix_twice = refl

letter_in_decimal : number_in (codes "12a") ≡ None
letter_in_decimal = refl

letter_behind_f : number_in (codes "0x1g") ≡ None
letter_behind_f = refl

sign : number_in (codes "-1") ≡ None
sign = refl

other_sign : number_in (codes "+1") ≡ None
other_sign = refl

blank : number_in (codes "1 ") ≡ None
blank = refl

-- bytes beside the digits
beside : (digit_value 47 ≡ None) × (digit_value 58 ≡ None) × (digit_value 96 ≡ None) × (digit_value 103 ≡ None) × (digit_value 64 ≡ None) × (digit_value 71 ≡ None)
beside = (refl, refl, refl, refl, refl, refl)

below : number_below 4294967296 (codes "4294967295") ≡ Some 4294967295
below = refl

at_the_bound : number_below 4294967296 (codes "0x100000000") ≡ None
at_the_bound = refl

below_none : number_below 0 (codes "0") ≡ None
below_none = refl
