-- Values, and what operators and functions make of them. Whatever is not said here is Open.
use Rattle.std.specs.Prelude.{ℕ, ℤ, pos, int_lt, int_le, List, [], ◌∷◌, ◌++◌, length, Bool, nat_le, if◌then◌else◌, Option, Some, None, option_map, option_and_then}
use Rattle.std.specs.Ordering.{int_eq}
use Rattle.spec_bits.specs.Pattern.{Digit}
use Rattle.spec_expressions.specs.Expression.{Op, And, Or, Implies, Iff, Eq, Ne, Lt, Le, Gt, Ge, Member}
use Rattle.spec_expressions.specs.Truth.{Truth, No, Open, truth_of, negation, conjunction, disjunction, implication, equivalence}
use Rattle.spec_expressions.specs.Digits.{number_of, each_is, equal_digits, digits_between}

-- a truth, a whole number, or bits, some of which may be `x`
pub data Value : Type 0 where
  ATruth : Truth → Value
  ANumber : ℤ → Value
  APattern : List Digit → Value

-- a value that is no truth counts as Open where a truth is wanted
abbrev pub as_truth : Value → Truth
as_truth (ATruth t) = t
as_truth (ANumber z) = Open
as_truth (APattern ds) = Open

abbrev pub number_or_open : Option ℕ → Value
number_or_open (Some n) = ANumber (pos n)
number_or_open None = ATruth Open

abbrev pub bits_or_open : Option (List Digit) → Value
bits_or_open (Some ds) = APattern ds
bits_or_open None = ATruth Open

-- ---- two sides

-- two whole numbers, two truths, or two bit values
abbrev pub equal : Value → Value → Truth
equal (ANumber x) (ANumber y) = truth_of (int_eq x y)
equal (ATruth a) (ATruth b) = equivalence a b
equal (APattern ds) (APattern es) = equal_digits ds es
equal a b = Open

-- two whole numbers
abbrev pub compared : (ℤ → ℤ → Bool) → Value → Value → Truth
compared test (ANumber x) (ANumber y) = truth_of (test x y)
compared test a b = Open

-- whether a value is equal to one of these: the Or of `==` over them, which is No for an empty list
abbrev pub among : Value → List Value → Truth
among v [] = No
among v (x ∷ xs) = disjunction (equal v x) (among v xs)

-- whether it is a member of the right side, of which these are the elements: Open where that is no Set
abbrev pub member : Value → Option (List Value) → Truth
member v (Some xs) = among v xs
member v None = Open

-- the sides' values, and the elements of the right one where it is a Set
abbrev pub binary : Op → Value → Value → Option (List Value) → Truth
binary And a b elements = conjunction (as_truth a) (as_truth b)
binary Or a b elements = disjunction (as_truth a) (as_truth b)
binary Implies a b elements = implication (as_truth a) (as_truth b)
binary Iff a b elements = equivalence (as_truth a) (as_truth b)
binary Eq a b elements = equal a b
binary Ne a b elements = negation (equal a b)
binary Lt a b elements = compared int_lt a b
binary Le a b elements = compared int_le a b
binary Gt a b elements = compared (λ x y. int_lt y x) a b
binary Ge a b elements = compared (λ x y. int_le y x) a b
binary Member a b elements = member a elements

-- ---- bits

-- the number that bits write, where they are at most 64 and none of them is `x`
abbrev pub unsigned : Value → Value
unsigned (APattern ds) = if nat_le (length ds) 64 then number_or_open (number_of ds) else ATruth Open
unsigned v = ATruth Open

-- of bits none of which is `x`, whether all are 0, or all are 1; else Open
abbrev pub all_are : ℕ → Value → Truth
all_are bit (APattern ds) = each_is bit ds
all_are bit v = Open

-- the digits of all parts, those of the first in front, where all parts are bits
abbrev pub digits_in_a_row : List Value → Option (List Digit)
digits_in_a_row [] = Some []
digits_in_a_row (APattern ds ∷ vs) = option_map (λ es. ds ++ es) (digits_in_a_row vs)
digits_in_a_row (ATruth t ∷ vs) = None
digits_in_a_row (ANumber z ∷ vs) = None

-- bits joined: at least one part, and at most 128 digits in all
abbrev pub in_a_row : List Value → Value
in_a_row [] = ATruth Open
in_a_row (v ∷ vs) = bits_or_open (option_and_then (λ ds. if nat_le (length ds) 128 then Some ds else None) (digits_in_a_row (v ∷ vs)))

-- bits from a high number down to a low one
abbrev pub sliced : Value → Value → Value → Value
sliced (APattern ds) (ANumber high) (ANumber low) = bits_or_open (digits_between high low ds)
sliced v high low = ATruth Open
