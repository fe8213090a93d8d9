-- Worked values: each kind of expression where it is defined, and where it is Open.
use Rattle.std.specs.Prelude.{◌≡◌, ℕ, pos, negsuc, List, [], ◌∷◌, ◌++◌, replicate, Bool, true, false, Some, None, codes, refl}
use Rattle.spec_bits.specs.Pattern.{Zero, One, Either}
use Rattle.spec_expressions.specs.Expression.{And, Or, Implies, Iff, Eq, Ne, Lt, Le, Gt, Ge, Member, UInt, IsZero, IsOnes, IsFeatureImplemented, Named, Expr, Boolean, Integer, Bits, Name, Not, Binary, Call, Set, Join, Slice, Other, no_exprs, exprs_of}
use Rattle.spec_expressions.specs.Truth.{Truth, Yes, No, Open}
use Rattle.spec_expressions.specs.Scope.{Field, Flag, Parameter, Configuration}
use Rattle.spec_expressions.specs.Operations.{Value, ATruth, ANumber, APattern}
use Rattle.spec_expressions.specs.Value.{value, truth}

-- the parameter `A` is on, `B` is off, and `Rn` is on, which is a field's name too
abbrev parameter : List ℕ → Bool → Parameter
parameter name on = record { name = name; state = Flag on }

abbrev configuration : Configuration
configuration = record { parameters = parameter (codes "A") true ∷ parameter (codes "B") false ∷ parameter (codes "Rn") true ∷ []; atoms = true ∷ [] }

-- a field of five bits, which are 10010, and one of three, which are 111
abbrev fields : List Field
fields = record { name = codes "Rn"; start = 4; width = 5 } ∷ record { name = codes "op"; start = 29; width = 3 } ∷ []

abbrev word : ℕ
word = 0xe0000120

abbrev worth : Expr → Value
worth e = value e configuration fields word

abbrev truth_in : Expr → Truth
truth_in e = truth (Some e) configuration fields word

-- expressions of three truths, and of bits and numbers
abbrev yes : Expr
yes = Boolean true

abbrev no : Expr
no = Boolean false

abbrev unknown : Expr
unknown = Other

abbrev int : ℕ → Expr
int n = Integer (pos n)

-- ---- truths, whole numbers and bits are themselves

boolean : worth no ≡ ATruth No
boolean = refl

integer : worth (Integer (negsuc 9223372036854775807)) ≡ ANumber (negsuc 9223372036854775807)
integer = refl

bits : worth (Bits (One ∷ Either ∷ [])) ≡ APattern (One ∷ Either ∷ [])
bits = refl

-- ---- names

-- the bits of a visible field, also where a parameter has its name
field : worth (Name (codes "op")) ≡ APattern (One ∷ One ∷ One ∷ [])
field = refl

field_before_parameter : worth (Name (codes "Rn")) ≡ APattern (One ∷ Zero ∷ Zero ∷ One ∷ Zero ∷ [])
field_before_parameter = refl

parameter_on : worth (Name (codes "A")) ≡ ATruth Yes
parameter_on = refl

parameter_off : worth (Name (codes "B")) ≡ ATruth No
parameter_off = refl

no_such_name : worth (Name (codes "C")) ≡ ATruth Open
no_such_name = refl

parameter_without_field : value (Name (codes "Rn")) configuration [] word ≡ ATruth Yes
parameter_without_field = refl

-- ---- not, and, or, implies, iff

not_yes : worth (Not yes) ≡ ATruth No
not_yes = refl

not_no : worth (Not no) ≡ ATruth Yes
not_no = refl

not_open : worth (Not unknown) ≡ ATruth Open
not_open = refl

-- a value that is no truth is Open
not_number : worth (Not (int 0)) ≡ ATruth Open
not_number = refl

yes_and_yes : truth_in (Binary And yes yes) ≡ Yes
yes_and_yes = refl

yes_and_no : truth_in (Binary And yes no) ≡ No
yes_and_no = refl

yes_and_open : truth_in (Binary And yes unknown) ≡ Open
yes_and_open = refl

no_and_open : truth_in (Binary And no unknown) ≡ No
no_and_open = refl

open_and_no : truth_in (Binary And unknown no) ≡ No
open_and_no = refl

open_and_open : truth_in (Binary And unknown unknown) ≡ Open
open_and_open = refl

number_and_no : truth_in (Binary And (int 1) no) ≡ No
number_and_no = refl

no_or_no : truth_in (Binary Or no no) ≡ No
no_or_no = refl

no_or_yes : truth_in (Binary Or no yes) ≡ Yes
no_or_yes = refl

no_or_open : truth_in (Binary Or no unknown) ≡ Open
no_or_open = refl

yes_or_open : truth_in (Binary Or yes unknown) ≡ Yes
yes_or_open = refl

open_or_yes : truth_in (Binary Or unknown yes) ≡ Yes
open_or_yes = refl

open_or_open : truth_in (Binary Or unknown unknown) ≡ Open
open_or_open = refl

bits_or_yes : truth_in (Binary Or (Bits (One ∷ [])) yes) ≡ Yes
bits_or_yes = refl

yes_implies_no : truth_in (Binary Implies yes no) ≡ No
yes_implies_no = refl

no_implies_open : truth_in (Binary Implies no unknown) ≡ Yes
no_implies_open = refl

open_implies_yes : truth_in (Binary Implies unknown yes) ≡ Yes
open_implies_yes = refl

open_implies_no : truth_in (Binary Implies unknown no) ≡ Open
open_implies_no = refl

yes_implies_open : truth_in (Binary Implies yes unknown) ≡ Open
yes_implies_open = refl

open_implies_open : truth_in (Binary Implies unknown unknown) ≡ Open
open_implies_open = refl

yes_iff_yes : truth_in (Binary Iff yes yes) ≡ Yes
yes_iff_yes = refl

no_iff_no : truth_in (Binary Iff no no) ≡ Yes
no_iff_no = refl

no_iff_yes : truth_in (Binary Iff no yes) ≡ No
no_iff_yes = refl

yes_iff_open : truth_in (Binary Iff yes unknown) ≡ Open
yes_iff_open = refl

open_iff_no : truth_in (Binary Iff unknown no) ≡ Open
open_iff_no = refl

number_iff_number : truth_in (Binary Iff (int 1) (int 1)) ≡ Open
number_iff_number = refl

-- ---- equal, and not equal

equal_numbers : truth_in (Binary Eq (int 3) (int 3)) ≡ Yes
equal_numbers = refl

other_numbers : truth_in (Binary Eq (int 3) (Integer (negsuc 2))) ≡ No
other_numbers = refl

equal_truths : truth_in (Binary Eq no (Name (codes "B"))) ≡ Yes
equal_truths = refl

other_truths : truth_in (Binary Eq yes no) ≡ No
other_truths = refl

truth_beside_open : truth_in (Binary Eq yes unknown) ≡ Open
truth_beside_open = refl

two_opens : truth_in (Binary Eq unknown unknown) ≡ Open
two_opens = refl

equal_bits : truth_in (Binary Eq (Name (codes "Rn")) (Bits (One ∷ Zero ∷ Zero ∷ One ∷ Zero ∷ []))) ≡ Yes
equal_bits = refl

other_bits : truth_in (Binary Eq (Name (codes "Rn")) (Bits (One ∷ Zero ∷ Zero ∷ One ∷ One ∷ []))) ≡ No
other_bits = refl

-- a pattern with `x` at either side
pattern_at_the_right : truth_in (Binary Eq (Name (codes "Rn")) (Bits (One ∷ Either ∷ Either ∷ One ∷ Either ∷ []))) ≡ Yes
pattern_at_the_right = refl

pattern_at_the_left : truth_in (Binary Eq (Bits (One ∷ Either ∷ Either ∷ Zero ∷ Either ∷ [])) (Name (codes "Rn"))) ≡ No
pattern_at_the_left = refl

two_patterns : truth_in (Binary Eq (Bits (One ∷ Either ∷ [])) (Bits (One ∷ Either ∷ []))) ≡ Open
two_patterns = refl

other_width : truth_in (Binary Eq (Name (codes "Rn")) (Bits (Zero ∷ One ∷ Zero ∷ Zero ∷ One ∷ Zero ∷ []))) ≡ Open
other_width = refl

widest_bits : truth_in (Binary Eq (Bits (replicate 128 One)) (Bits (Either ∷ replicate 127 One))) ≡ Yes
widest_bits = refl

widest_bits_differ : truth_in (Binary Eq (Bits (Either ∷ replicate 126 One ++ Zero ∷ [])) (Bits (replicate 128 One))) ≡ No
widest_bits_differ = refl

-- two values of different kinds
number_and_bits : truth_in (Binary Eq (int 1) (Bits (One ∷ []))) ≡ Open
number_and_bits = refl

truth_and_bits : truth_in (Binary Eq yes (Bits (One ∷ []))) ≡ Open
truth_and_bits = refl

truth_and_number : truth_in (Binary Eq yes (int 1)) ≡ Open
truth_and_number = refl

not_equal : truth_in (Binary Ne (int 3) (int 4)) ≡ Yes
not_equal = refl

not_equal_bits : truth_in (Binary Ne (Name (codes "op")) (Bits (One ∷ One ∷ One ∷ []))) ≡ No
not_equal_bits = refl

not_equal_open : truth_in (Binary Ne (Name (codes "op")) (Bits (One ∷ []))) ≡ Open
not_equal_open = refl

-- ---- less, and greater

-- from the least whole number to the greatest of 64 bits
less : truth_in (Binary Lt (Integer (negsuc 9223372036854775807)) (Call UInt (exprs_of (Bits (replicate 64 One) ∷ [])))) ≡ Yes
less = refl

not_less : truth_in (Binary Lt (int 3) (int 3)) ≡ No
not_less = refl

less_negative : truth_in (Binary Lt (Integer (negsuc 1)) (Integer (negsuc 0))) ≡ Yes
less_negative = refl

less_of_bits : truth_in (Binary Lt (Bits (Zero ∷ [])) (Bits (One ∷ []))) ≡ Open
less_of_bits = refl

less_or_equal : truth_in (Binary Le (int 3) (int 3)) ≡ Yes
less_or_equal = refl

not_less_or_equal : truth_in (Binary Le (int 0) (Integer (negsuc 0))) ≡ No
not_less_or_equal = refl

less_or_equal_open : truth_in (Binary Le (int 0) unknown) ≡ Open
less_or_equal_open = refl

greater : truth_in (Binary Gt (Call UInt (exprs_of (Bits (replicate 64 One) ∷ []))) (int 9223372036854775807)) ≡ Yes
greater = refl

not_greater : truth_in (Binary Gt (int 3) (int 3)) ≡ No
not_greater = refl

greater_of_truths : truth_in (Binary Gt yes no) ≡ Open
greater_of_truths = refl

greater_or_equal : truth_in (Binary Ge (Call UInt (exprs_of (Bits (replicate 64 One) ∷ []))) (Call UInt (exprs_of (Bits (replicate 64 One) ∷ [])))) ≡ Yes
greater_or_equal = refl

not_greater_or_equal : truth_in (Binary Ge (Integer (negsuc 9223372036854775807)) (Integer (negsuc 0))) ≡ No
not_greater_or_equal = refl

greater_or_equal_open : truth_in (Binary Ge (Name (codes "C")) (int 0)) ≡ Open
greater_or_equal_open = refl

-- ---- member of a Set

member : truth_in (Binary Member (Name (codes "op")) (Set (exprs_of (Bits (Zero ∷ Zero ∷ Zero ∷ []) ∷ Bits (One ∷ One ∷ Either ∷ []) ∷ [])))) ≡ Yes
member = refl

no_member : truth_in (Binary Member (Name (codes "op")) (Set (exprs_of (Bits (Zero ∷ Zero ∷ Zero ∷ []) ∷ Bits (Zero ∷ One ∷ Either ∷ []) ∷ [])))) ≡ No
no_member = refl

member_open : truth_in (Binary Member (Name (codes "op")) (Set (exprs_of (Bits (Zero ∷ Zero ∷ Zero ∷ []) ∷ Bits (One ∷ One ∷ []) ∷ [])))) ≡ Open
member_open = refl

member_beside_open : truth_in (Binary Member (Name (codes "op")) (Set (exprs_of (unknown ∷ Bits (One ∷ One ∷ One ∷ []) ∷ [])))) ≡ Yes
member_beside_open = refl

member_of_numbers : truth_in (Binary Member (int 3) (Set (exprs_of (int 1 ∷ int 3 ∷ [])))) ≡ Yes
member_of_numbers = refl

no_member_of_numbers : truth_in (Binary Member (Integer (negsuc 2)) (Set (exprs_of (int 1 ∷ int 3 ∷ [])))) ≡ No
no_member_of_numbers = refl

-- nothing is in an empty Set
member_of_empty : truth_in (Binary Member unknown (Set no_exprs)) ≡ No
member_of_empty = refl

-- the right side has to be a Set
member_of_bits : truth_in (Binary Member (Name (codes "op")) (Bits (One ∷ One ∷ One ∷ []))) ≡ Open
member_of_bits = refl

set_alone : worth (Set (exprs_of (yes ∷ []))) ≡ ATruth Open
set_alone = refl

-- ---- functions

unsigned : worth (Call UInt (exprs_of (Name (codes "Rn") ∷ []))) ≡ ANumber (pos 18)
unsigned = refl

unsigned_widest : worth (Call UInt (exprs_of (Bits (replicate 64 One) ∷ []))) ≡ ANumber (pos 18446744073709551615)
unsigned_widest = refl

unsigned_too_wide : worth (Call UInt (exprs_of (Bits (replicate 65 Zero) ∷ []))) ≡ ATruth Open
unsigned_too_wide = refl

unsigned_of_x : worth (Call UInt (exprs_of (Bits (One ∷ Either ∷ []) ∷ []))) ≡ ATruth Open
unsigned_of_x = refl

unsigned_of_number : worth (Call UInt (exprs_of (int 1 ∷ []))) ≡ ATruth Open
unsigned_of_number = refl

unsigned_of_two : worth (Call UInt (exprs_of (Name (codes "Rn") ∷ Name (codes "op") ∷ []))) ≡ ATruth Open
unsigned_of_two = refl

unsigned_of_none : worth (Call UInt no_exprs) ≡ ATruth Open
unsigned_of_none = refl

zero : truth_in (Call IsZero (exprs_of (Bits (replicate 128 Zero) ∷ []))) ≡ Yes
zero = refl

not_zero : truth_in (Call IsZero (exprs_of (Name (codes "Rn") ∷ []))) ≡ No
not_zero = refl

zero_of_x : truth_in (Call IsZero (exprs_of (Bits (One ∷ Either ∷ []) ∷ []))) ≡ Open
zero_of_x = refl

zero_of_number : truth_in (Call IsZero (exprs_of (int 0 ∷ []))) ≡ Open
zero_of_number = refl

zero_of_truth : truth_in (Call IsZero (exprs_of (no ∷ []))) ≡ Open
zero_of_truth = refl

zero_of_none : truth_in (Call IsZero no_exprs) ≡ Open
zero_of_none = refl

zero_of_two : truth_in (Call IsZero (exprs_of (Bits (Zero ∷ []) ∷ Bits (Zero ∷ []) ∷ []))) ≡ Open
zero_of_two = refl

ones : truth_in (Call IsOnes (exprs_of (Name (codes "op") ∷ []))) ≡ Yes
ones = refl

not_ones : truth_in (Call IsOnes (exprs_of (Name (codes "Rn") ∷ []))) ≡ No
not_ones = refl

ones_of_x : truth_in (Call IsOnes (exprs_of (Bits (Zero ∷ Either ∷ []) ∷ []))) ≡ Open
ones_of_x = refl

ones_of_number : truth_in (Call IsOnes (exprs_of (int 1 ∷ []))) ≡ Open
ones_of_number = refl

ones_of_none : truth_in (Call IsOnes no_exprs) ≡ Open
ones_of_none = refl

ones_of_two : truth_in (Call IsOnes (exprs_of (Bits (One ∷ []) ∷ Bits (One ∷ []) ∷ []))) ≡ Open
ones_of_two = refl

-- a field does not hide the feature
implemented : truth_in (Call IsFeatureImplemented (exprs_of (Name (codes "Rn") ∷ []))) ≡ Yes
implemented = refl

not_implemented : truth_in (Call IsFeatureImplemented (exprs_of (Name (codes "B") ∷ []))) ≡ No
not_implemented = refl

no_such_feature : truth_in (Call IsFeatureImplemented (exprs_of (Name (codes "op") ∷ []))) ≡ Open
no_such_feature = refl

implemented_of_truth : truth_in (Call IsFeatureImplemented (exprs_of (yes ∷ []))) ≡ Open
implemented_of_truth = refl

implemented_of_two : truth_in (Call IsFeatureImplemented (exprs_of (Name (codes "A") ∷ Name (codes "A") ∷ []))) ≡ Open
implemented_of_two = refl

implemented_of_none : truth_in (Call IsFeatureImplemented no_exprs) ≡ Open
implemented_of_none = refl

named_function : truth_in (Call (Named (codes "HaveEL")) (exprs_of (Name (codes "EL2") ∷ []))) ≡ Open
named_function = refl

named_as_a_function : truth_in (Call (Named (codes "UInt")) (exprs_of (Name (codes "Rn") ∷ []))) ≡ Open
named_as_a_function = refl

-- ---- joins

-- the first part is highest
join : worth (Join (exprs_of (Name (codes "op") ∷ Bits (Zero ∷ Either ∷ []) ∷ []))) ≡ APattern (One ∷ One ∷ One ∷ Zero ∷ Either ∷ [])
join = refl

join_widest : worth (Join (exprs_of (Bits (replicate 127 One) ∷ Bits (Zero ∷ []) ∷ []))) ≡ APattern (replicate 127 One ++ Zero ∷ [])
join_widest = refl

join_too_wide : worth (Join (exprs_of (Bits (replicate 128 One) ∷ Bits (Zero ∷ []) ∷ []))) ≡ ATruth Open
join_too_wide = refl

join_of_none : worth (Join no_exprs) ≡ ATruth Open
join_of_none = refl

join_with_number : worth (Join (exprs_of (Name (codes "op") ∷ int 1 ∷ []))) ≡ ATruth Open
join_with_number = refl

-- ---- slices

sliced : worth (Slice (Bits (One ∷ Either ∷ Zero ∷ One ∷ Zero ∷ [])) (int 3) (int 1)) ≡ APattern (Either ∷ Zero ∷ One ∷ [])
sliced = refl

sliced_whole : worth (Slice (Bits (One ∷ Either ∷ Zero ∷ One ∷ Zero ∷ [])) (int 4) (int 0)) ≡ APattern (One ∷ Either ∷ Zero ∷ One ∷ Zero ∷ [])
sliced_whole = refl

highest_bit : worth (Slice (Bits (One ∷ Either ∷ Zero ∷ One ∷ Zero ∷ [])) (int 4) (int 4)) ≡ APattern (One ∷ [])
highest_bit = refl

lowest_bit : worth (Slice (Bits (One ∷ Either ∷ Zero ∷ One ∷ Zero ∷ [])) (int 0) (int 0)) ≡ APattern (Zero ∷ [])
lowest_bit = refl

sliced_by_field : worth (Slice (Name (codes "Rn")) (Call UInt (exprs_of (Bits (Zero ∷ Zero ∷ One ∷ []) ∷ []))) (int 0)) ≡ APattern (One ∷ Zero ∷ [])
sliced_by_field = refl

sliced_too_high : worth (Slice (Bits (One ∷ Either ∷ Zero ∷ One ∷ Zero ∷ [])) (int 5) (int 0)) ≡ ATruth Open
sliced_too_high = refl

sliced_reversed : worth (Slice (Bits (One ∷ Either ∷ Zero ∷ One ∷ Zero ∷ [])) (int 1) (int 2)) ≡ ATruth Open
sliced_reversed = refl

sliced_below : worth (Slice (Bits (One ∷ Either ∷ Zero ∷ One ∷ Zero ∷ [])) (int 1) (Integer (negsuc 0))) ≡ ATruth Open
sliced_below = refl

sliced_far : worth (Slice (Bits (One ∷ Either ∷ Zero ∷ One ∷ Zero ∷ [])) (Integer (pos 18446744073709551615)) (Integer (pos 18446744073709551615))) ≡ ATruth Open
sliced_far = refl

sliced_number : worth (Slice (int 5) (int 1) (int 0)) ≡ ATruth Open
sliced_number = refl

sliced_at_open : worth (Slice (Bits (One ∷ Either ∷ Zero ∷ One ∷ Zero ∷ [])) unknown (int 0)) ≡ ATruth Open
sliced_at_open = refl

-- ---- conditions

no_condition : truth None configuration fields word ≡ Yes
no_condition = refl

condition_of_no_truth : truth_in (Name (codes "op")) ≡ Open
condition_of_no_truth = refl

other : worth Other ≡ ATruth Open
other = refl
