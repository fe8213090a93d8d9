-- Worked values: small texts read as expressions, with the names that take a number on the way and how many expressions are counted.
use Rattle.std.specs.Prelude.{◌≡◌, ℕ, pos, negsuc, List, [], ◌∷◌, replicate, true, false, Option, Some, None, Result, Ok, Err, option_map, codes, refl}
use Rattle.std.specs.Fmt.{digits}
use Rattle.serde_json.specs.Read.{read}
use Rattle.serde_json.proofs.OnLiterals.{serde_json_on_literals}
use Rattle.spec_bits.specs.Pattern.{Zero, One, Either}
use Rattle.spec_walk.specs.Event.{Fault, WrongShape}
use Rattle.spec_walk.specs.Limits.{Counts, from_held}
use Rattle.spec_walk.specs.Walk.{gives}
use Rattle.spec_walk.specs.Spot.{root}
use Rattle.spec_expressions.specs.Expression.{And, Or, Implies, Iff, Eq, Ne, Lt, Le, Gt, Ge, Member, op_named, UInt, IsZero, IsOnes, IsFeatureImplemented, Named, Expr, Boolean, Integer, Bits, Name, Not, Binary, Call, Set, Join, Slice, Other, no_exprs, expr}
use Rattle.spec_expressions.specs.Reading.{expression}

-- what a text is read as, with the counts behind it
abbrev reads : List ℕ → Option (Result (Expr × Counts) Fault)
reads text = option_map (λ d. gives (expression (root d)) (from_held [])) (read text)

-- that expression, with these names held and so many expressions counted
abbrev as_read : Expr → List (List ℕ) → ℕ → Option (Result (Expr × Counts) Fault)
as_read e held count = Some (Ok (e, record (from_held held) { expressions = count }))

abbrev wrong_at : List ℕ → Option (Result (Expr × Counts) Fault)
wrong_at at = Some (Err (record { at = at; why = WrongShape }))

-- ---- truths, whole numbers, bits and names

boolean_true : reads (codes "{\"_type\":\"AST.Bool\",\"value\":true}") ≡ as_read (Boolean true) [] 1
unfolding digits serde_json_on_literals
boolean_true = refl

-- a value of the wrong type, or none
boolean_of_number : reads (codes "{\"_type\":\"AST.Bool\",\"value\":1}") ≡ as_read Other [] 1
unfolding digits serde_json_on_literals
boolean_of_number = refl

boolean_absent : reads (codes "{\"_type\":\"AST.Bool\"}") ≡ as_read Other [] 1
unfolding digits serde_json_on_literals
boolean_absent = refl

-- whole numbers at both ends of 64 bits, and beyond them
least_integer : reads (codes "{\"_type\":\"AST.Integer\",\"value\":-9223372036854775808}") ≡ as_read (Integer (negsuc 9223372036854775807)) [] 1
unfolding digits serde_json_on_literals
least_integer = refl

greatest_integer : reads (codes "{\"_type\":\"AST.Integer\",\"value\":9223372036854775807}") ≡ as_read (Integer (pos 9223372036854775807)) [] 1
unfolding digits serde_json_on_literals
greatest_integer = refl

above_integers : reads (codes "{\"_type\":\"AST.Integer\",\"value\":9223372036854775808}") ≡ as_read Other [] 1
unfolding digits serde_json_on_literals
above_integers = refl

last_whole_number : reads (codes "{\"_type\":\"AST.Integer\",\"value\":18446744073709551615}") ≡ as_read Other [] 1
unfolding digits serde_json_on_literals
last_whole_number = refl

beyond_whole_numbers : reads (codes "{\"_type\":\"AST.Integer\",\"value\":18446744073709551616}") ≡ as_read Other [] 1
unfolding digits serde_json_on_literals
beyond_whole_numbers = refl

below_integers : reads (codes "{\"_type\":\"AST.Integer\",\"value\":-9223372036854775809}") ≡ as_read Other [] 1
unfolding digits serde_json_on_literals
below_integers = refl

-- these are no whole numbers as they are kept
fraction : reads (codes "{\"_type\":\"AST.Integer\",\"value\":1.0}") ≡ as_read Other [] 1
unfolding digits serde_json_on_literals
fraction = refl

negative_zero : reads (codes "{\"_type\":\"AST.Integer\",\"value\":-0}") ≡ as_read Other [] 1
unfolding digits serde_json_on_literals
negative_zero = refl

zero_integer : reads (codes "{\"_type\":\"AST.Integer\",\"value\":0}") ≡ as_read (Integer (pos 0)) [] 1
unfolding digits serde_json_on_literals
zero_integer = refl

bits_quoted : reads (codes "{\"_type\":\"Values.Value\",\"value\":\"'1 0x'\"}") ≡ as_read (Bits (One ∷ Zero ∷ Either ∷ [])) [] 1
unfolding digits serde_json_on_literals
bits_quoted = refl

-- a text that is no pattern is no fault here
bits_unclosed : reads (codes "{\"_type\":\"Values.Value\",\"value\":\"'10\"}") ≡ as_read Other [] 1
unfolding digits serde_json_on_literals
bits_unclosed = refl

bits_empty : reads (codes "{\"_type\":\"Values.Value\",\"value\":\"\"}") ≡ as_read Other [] 1
unfolding digits serde_json_on_literals
bits_empty = refl

bits_of_number : reads (codes "{\"_type\":\"Values.Value\",\"value\":1}") ≡ as_read Other [] 1
unfolding digits serde_json_on_literals
bits_of_number = refl

widest_bits : reads (codes "{\"_type\":\"Values.Value\",\"value\":\"11111111111111111111111111111111111111111111111111111111111111111111111111111111111111111111111111111111111111111111111111111111\"}") ≡ as_read (Bits (replicate 128 One)) [] 1
unfolding digits serde_json_on_literals
widest_bits = refl

bits_too_wide : reads (codes "{\"_type\":\"Values.Value\",\"value\":\"111111111111111111111111111111111111111111111111111111111111111111111111111111111111111111111111111111111111111111111111111111111\"}") ≡ as_read Other [] 1
unfolding digits serde_json_on_literals
bits_too_wide = refl

-- a name takes a number, and none where it makes Other
a_name : reads (codes "{\"_type\":\"AST.Identifier\",\"value\":\"FEAT_AES\"}") ≡ as_read (Name (codes "FEAT_AES")) (codes "FEAT_AES" ∷ []) 1
unfolding digits serde_json_on_literals
a_name = refl

longest_name : reads (codes "{\"_type\":\"AST.Identifier\",\"value\":\"nnnnnnnnnnnnnnnnnnnnnnnnnnnnnnnnnnnnnnnnnnnnnnnnnnnnnnnnnnnnnnnnnnnnnnnnnnnnnnnnnnnnnnnnnnnnnnnnnnnnnnnnnnnnnnnnnnnnnnnnnnnnnnnn\"}") ≡ as_read (Name (codes "nnnnnnnnnnnnnnnnnnnnnnnnnnnnnnnnnnnnnnnnnnnnnnnnnnnnnnnnnnnnnnnnnnnnnnnnnnnnnnnnnnnnnnnnnnnnnnnnnnnnnnnnnnnnnnnnnnnnnnnnnnnnnnnn")) (codes "nnnnnnnnnnnnnnnnnnnnnnnnnnnnnnnnnnnnnnnnnnnnnnnnnnnnnnnnnnnnnnnnnnnnnnnnnnnnnnnnnnnnnnnnnnnnnnnnnnnnnnnnnnnnnnnnnnnnnnnnnnnnnnnn" ∷ []) 1
unfolding digits serde_json_on_literals
longest_name = refl

name_too_long : reads (codes "{\"_type\":\"AST.Identifier\",\"value\":\"nnnnnnnnnnnnnnnnnnnnnnnnnnnnnnnnnnnnnnnnnnnnnnnnnnnnnnnnnnnnnnnnnnnnnnnnnnnnnnnnnnnnnnnnnnnnnnnnnnnnnnnnnnnnnnnnnnnnnnnnnnnnnnnnn\"}") ≡ as_read Other [] 1
unfolding digits serde_json_on_literals
name_too_long = refl

empty_name : reads (codes "{\"_type\":\"AST.Identifier\",\"value\":\"\"}") ≡ as_read Other [] 1
unfolding digits serde_json_on_literals
empty_name = refl

name_with_space : reads (codes "{\"_type\":\"AST.Identifier\",\"value\":\"a b\"}") ≡ as_read Other [] 1
unfolding digits serde_json_on_literals
name_with_space = refl

name_with_equals : reads (codes "{\"_type\":\"AST.Identifier\",\"value\":\"a=b\"}") ≡ as_read Other [] 1
unfolding digits serde_json_on_literals
name_with_equals = refl

name_with_hash : reads (codes "{\"_type\":\"AST.Identifier\",\"value\":\"a#1\"}") ≡ as_read Other [] 1
unfolding digits serde_json_on_literals
name_with_hash = refl

name_with_comma : reads (codes "{\"_type\":\"AST.Identifier\",\"value\":\"a,b\"}") ≡ as_read Other [] 1
unfolding digits serde_json_on_literals
name_with_comma = refl

name_with_delete : reads (codes "{\"_type\":\"AST.Identifier\",\"value\":\"a\\u007f\"}") ≡ as_read Other [] 1
unfolding digits serde_json_on_literals
name_with_delete = refl

name_beyond_ascii : reads (codes "{\"_type\":\"AST.Identifier\",\"value\":\"\\u00e9\"}") ≡ as_read Other [] 1
unfolding digits serde_json_on_literals
name_beyond_ascii = refl

name_absent : reads (codes "{\"_type\":\"AST.Identifier\"}") ≡ as_read Other [] 1
unfolding digits serde_json_on_literals
name_absent = refl

name_of_number : reads (codes "{\"_type\":\"AST.Identifier\",\"value\":1}") ≡ as_read Other [] 1
unfolding digits serde_json_on_literals
name_of_number = refl

-- a name that is met twice is held once
name_twice : reads (codes "{\"_type\":\"AST.BinaryOp\",\"op\":\"==\",\"left\":{\"_type\":\"AST.Identifier\",\"value\":\"a\"},\"right\":{\"_type\":\"AST.Identifier\",\"value\":\"a\"}}") ≡ as_read (Binary Eq (Name (codes "a")) (Name (codes "a"))) (codes "a" ∷ []) 3
unfolding digits serde_json_on_literals
name_twice = refl

-- ---- operators

negated : reads (codes "{\"_type\":\"AST.UnaryOp\",\"op\":\"!\",\"expr\":{\"_type\":\"AST.Bool\",\"value\":true}}") ≡ as_read (Not (Boolean true)) [] 2
unfolding digits serde_json_on_literals
negated = refl

-- an operator that is none, a part that is absent, null, or no object: nothing inside is read
other_unary : reads (codes "{\"_type\":\"AST.UnaryOp\",\"op\":\"-\",\"expr\":{\"_type\":\"AST.Identifier\",\"value\":\"a\"}}") ≡ as_read Other [] 1
unfolding digits serde_json_on_literals
other_unary = refl

unary_alone : reads (codes "{\"_type\":\"AST.UnaryOp\",\"op\":\"!\"}") ≡ as_read Other [] 1
unfolding digits serde_json_on_literals
unary_alone = refl

unary_of_null : reads (codes "{\"_type\":\"AST.UnaryOp\",\"op\":\"!\",\"expr\":null}") ≡ as_read Other [] 1
unfolding digits serde_json_on_literals
unary_of_null = refl

unary_of_truth : reads (codes "{\"_type\":\"AST.UnaryOp\",\"op\":\"!\",\"expr\":true}") ≡ as_read Other [] 1
unfolding digits serde_json_on_literals
unary_of_truth = refl

unary_of_array : reads (codes "{\"_type\":\"AST.UnaryOp\",\"op\":\"!\",\"expr\":[{\"_type\":\"AST.Identifier\",\"value\":\"a\"}]}") ≡ as_read Other [] 1
unfolding digits serde_json_on_literals
unary_of_array = refl

op_of_number : reads (codes "{\"_type\":\"AST.UnaryOp\",\"op\":1,\"expr\":{\"_type\":\"AST.Identifier\",\"value\":\"a\"}}") ≡ as_read Other [] 1
unfolding digits serde_json_on_literals
op_of_number = refl

compared : reads (codes "{\"_type\":\"AST.BinaryOp\",\"op\":\"==\",\"left\":{\"_type\":\"AST.Identifier\",\"value\":\"Rd\"},\"right\":{\"_type\":\"Values.Value\",\"value\":\"11111\"}}") ≡ as_read (Binary Eq (Name (codes "Rd")) (Bits (replicate 5 One))) (codes "Rd" ∷ []) 3
unfolding digits serde_json_on_literals
compared = refl

other_binary : reads (codes "{\"_type\":\"AST.BinaryOp\",\"op\":\"+\",\"left\":{\"_type\":\"AST.Identifier\",\"value\":\"a\"},\"right\":{\"_type\":\"AST.Identifier\",\"value\":\"b\"}}") ≡ as_read Other [] 1
unfolding digits serde_json_on_literals
other_binary = refl

left_absent : reads (codes "{\"_type\":\"AST.BinaryOp\",\"op\":\"&&\",\"right\":{\"_type\":\"AST.Identifier\",\"value\":\"b\"}}") ≡ as_read Other [] 1
unfolding digits serde_json_on_literals
left_absent = refl

right_text : reads (codes "{\"_type\":\"AST.BinaryOp\",\"op\":\"&&\",\"left\":{\"_type\":\"AST.Identifier\",\"value\":\"a\"},\"right\":\"b\"}") ≡ as_read Other [] 1
unfolding digits serde_json_on_literals
right_text = refl

-- the text of each operator of two sides
op_and : op_named (codes "&&") ≡ Some And
op_and = refl

op_or : op_named (codes "||") ≡ Some Or
op_or = refl

op_implies : op_named (codes "-->") ≡ Some Implies
op_implies = refl

op_iff : op_named (codes "<->") ≡ Some Iff
op_iff = refl

op_equal : op_named (codes "==") ≡ Some Eq
op_equal = refl

op_unequal : op_named (codes "!=") ≡ Some Ne
op_unequal = refl

op_less : op_named (codes "<") ≡ Some Lt
op_less = refl

op_less_or_equal : op_named (codes "<=") ≡ Some Le
op_less_or_equal = refl

op_greater : op_named (codes ">") ≡ Some Gt
op_greater = refl

op_greater_or_equal : op_named (codes ">=") ≡ Some Ge
op_greater_or_equal = refl

op_in : op_named (codes "IN") ≡ Some Member
op_in = refl

-- and texts of none
no_op_single : op_named (codes "&") ≡ None
no_op_single = refl

no_op_lower : op_named (codes "in") ≡ None
no_op_lower = refl

no_op_empty : op_named (codes "") ≡ None
no_op_empty = refl

-- whole constraints: a feature that asks for another, two that exclude each other, and one beside an unknown call
constraint_implies : reads (codes "{\"_type\":\"AST.BinaryOp\",\"op\":\"-->\",\"left\":{\"_type\":\"AST.Identifier\",\"value\":\"FEAT_PMULL\"},\"right\":{\"_type\":\"AST.Identifier\",\"value\":\"FEAT_AES\"}}") ≡ as_read (Binary Implies (Name (codes "FEAT_PMULL")) (Name (codes "FEAT_AES"))) (codes "FEAT_PMULL" ∷ codes "FEAT_AES" ∷ []) 3
unfolding digits serde_json_on_literals
constraint_implies = refl

constraint_excludes : reads (codes "{\"_type\":\"AST.UnaryOp\",\"op\":\"!\",\"expr\":{\"_type\":\"AST.BinaryOp\",\"op\":\"&&\",\"left\":{\"_type\":\"AST.Identifier\",\"value\":\"FEAT_TST\"},\"right\":{\"_type\":\"AST.Identifier\",\"value\":\"FEAT_AES\"}}}") ≡ as_read (Not (Binary And (Name (codes "FEAT_TST")) (Name (codes "FEAT_AES")))) (codes "FEAT_TST" ∷ codes "FEAT_AES" ∷ []) 4
unfolding digits serde_json_on_literals
constraint_excludes = refl

constraint_or : reads (codes "{\"_type\":\"AST.BinaryOp\",\"op\":\"||\",\"left\":{\"_type\":\"AST.Identifier\",\"value\":\"FEAT_TST\"},\"right\":{\"_type\":\"AST.Function\",\"name\":\"HaveEL\",\"arguments\":[{\"_type\":\"AST.Identifier\",\"value\":\"EL2\"}]}}") ≡ as_read (Binary Or (Name (codes "FEAT_TST")) (Call (Named (codes "HaveEL")) (expr (Name (codes "EL2")) no_exprs))) (codes "FEAT_TST" ∷ codes "EL2" ∷ codes "HaveEL" ∷ []) 4
unfolding digits serde_json_on_literals
constraint_or = refl

-- ---- calls

-- the names of the four functions take no number, and any other's does, behind those of its arguments
feature : reads (codes "{\"_type\":\"AST.Function\",\"name\":\"IsFeatureImplemented\",\"arguments\":[{\"_type\":\"AST.Identifier\",\"value\":\"FEAT_AES\"}]}") ≡ as_read (Call IsFeatureImplemented (expr (Name (codes "FEAT_AES")) no_exprs)) (codes "FEAT_AES" ∷ []) 2
unfolding digits serde_json_on_literals
feature = refl

unsigned_call : reads (codes "{\"_type\":\"AST.Function\",\"name\":\"UInt\",\"arguments\":[{\"_type\":\"AST.Identifier\",\"value\":\"Rn\"}]}") ≡ as_read (Call UInt (expr (Name (codes "Rn")) no_exprs)) (codes "Rn" ∷ []) 2
unfolding digits serde_json_on_literals
unsigned_call = refl

zero_call : reads (codes "{\"_type\":\"AST.Function\",\"name\":\"IsZero\",\"arguments\":[]}") ≡ as_read (Call IsZero no_exprs) [] 1
unfolding digits serde_json_on_literals
zero_call = refl

ones_call : reads (codes "{\"_type\":\"AST.Function\",\"name\":\"IsOnes\",\"arguments\":[]}") ≡ as_read (Call IsOnes no_exprs) [] 1
unfolding digits serde_json_on_literals
ones_call = refl

named_call : reads (codes "{\"_type\":\"AST.Function\",\"name\":\"HaveEL\",\"arguments\":[{\"_type\":\"AST.Identifier\",\"value\":\"EL2\"}]}") ≡ as_read (Call (Named (codes "HaveEL")) (expr (Name (codes "EL2")) no_exprs)) (codes "EL2" ∷ codes "HaveEL" ∷ []) 2
unfolding digits serde_json_on_literals
named_call = refl

-- a bad name, an argument that is no object, or no array
call_without_name : reads (codes "{\"_type\":\"AST.Function\",\"name\":\"\",\"arguments\":[{\"_type\":\"AST.Identifier\",\"value\":\"a\"}]}") ≡ as_read Other [] 1
unfolding digits serde_json_on_literals
call_without_name = refl

argument_no_object : reads (codes "{\"_type\":\"AST.Function\",\"name\":\"F\",\"arguments\":[{\"_type\":\"AST.Identifier\",\"value\":\"a\"},1]}") ≡ as_read Other [] 1
unfolding digits serde_json_on_literals
argument_no_object = refl

arguments_no_array : reads (codes "{\"_type\":\"AST.Function\",\"name\":\"F\",\"arguments\":{\"_type\":\"AST.Identifier\",\"value\":\"a\"}}") ≡ as_read Other [] 1
unfolding digits serde_json_on_literals
arguments_no_array = refl

arguments_absent : reads (codes "{\"_type\":\"AST.Function\",\"name\":\"F\"}") ≡ as_read Other [] 1
unfolding digits serde_json_on_literals
arguments_absent = refl

function_absent : reads (codes "{\"_type\":\"AST.Function\",\"arguments\":[{\"_type\":\"AST.Identifier\",\"value\":\"a\"}]}") ≡ as_read Other [] 1
unfolding digits serde_json_on_literals
function_absent = refl

function_of_number : reads (codes "{\"_type\":\"AST.Function\",\"name\":1,\"arguments\":[{\"_type\":\"AST.Identifier\",\"value\":\"a\"}]}") ≡ as_read Other [] 1
unfolding digits serde_json_on_literals
function_of_number = refl

-- ---- sets and joins

empty_set : reads (codes "{\"_type\":\"AST.Set\",\"values\":[]}") ≡ as_read (Set no_exprs) [] 1
unfolding digits serde_json_on_literals
empty_set = refl

a_set : reads (codes "{\"_type\":\"AST.Set\",\"values\":[{\"_type\":\"AST.Integer\",\"value\":1},{\"_type\":\"Values.Value\",\"value\":\"x\"}]}") ≡ as_read (Set (expr (Integer (pos 1)) (expr (Bits (Either ∷ [])) no_exprs))) [] 3
unfolding digits serde_json_on_literals
a_set = refl

set_of_null : reads (codes "{\"_type\":\"AST.Set\",\"values\":[{\"_type\":\"AST.Identifier\",\"value\":\"a\"},null]}") ≡ as_read Other [] 1
unfolding digits serde_json_on_literals
set_of_null = refl

set_alone : reads (codes "{\"_type\":\"AST.Set\",\"values\":null}") ≡ as_read Other [] 1
unfolding digits serde_json_on_literals
set_alone = refl

a_join : reads (codes "{\"_type\":\"AST.Concat\",\"values\":[{\"_type\":\"Values.Value\",\"value\":\"1\"},{\"_type\":\"AST.Identifier\",\"value\":\"op\"}]}") ≡ as_read (Join (expr (Bits (One ∷ [])) (expr (Name (codes "op")) no_exprs))) (codes "op" ∷ []) 3
unfolding digits serde_json_on_literals
a_join = refl

join_of_text : reads (codes "{\"_type\":\"AST.Concat\",\"values\":[\"1\"]}") ≡ as_read Other [] 1
unfolding digits serde_json_on_literals
join_of_text = refl

-- ---- slices

-- the ends of an `AST.Slice` are read, and it is no expression itself
a_slice : reads (codes "{\"_type\":\"AST.SquareOp\",\"var\":{\"_type\":\"AST.Identifier\",\"value\":\"x\"},\"arguments\":[{\"_type\":\"AST.Slice\",\"left\":{\"_type\":\"AST.Integer\",\"value\":3},\"right\":{\"_type\":\"AST.Integer\",\"value\":1}}]}") ≡ as_read (Slice (Name (codes "x")) (Integer (pos 3)) (Integer (pos 1))) (codes "x" ∷ []) 4
unfolding digits serde_json_on_literals
a_slice = refl

-- one argument that is both ends is read once
one_bit : reads (codes "{\"_type\":\"AST.SquareOp\",\"var\":{\"_type\":\"AST.Identifier\",\"value\":\"x\"},\"arguments\":[{\"_type\":\"AST.Integer\",\"value\":3}]}") ≡ as_read (Slice (Name (codes "x")) (Integer (pos 3)) (Integer (pos 3))) (codes "x" ∷ []) 3
unfolding digits serde_json_on_literals
one_bit = refl

bit_of_other : reads (codes "{\"_type\":\"AST.SquareOp\",\"var\":{\"_type\":\"AST.Identifier\",\"value\":\"x\"},\"arguments\":[{}]}") ≡ as_read (Slice (Name (codes "x")) Other Other) (codes "x" ∷ []) 3
unfolding digits serde_json_on_literals
bit_of_other = refl

-- not one argument; an `AST.Slice` that lacks an end, or has no object there; no `var`
two_arguments : reads (codes "{\"_type\":\"AST.SquareOp\",\"var\":{\"_type\":\"AST.Identifier\",\"value\":\"x\"},\"arguments\":[{\"_type\":\"AST.Integer\",\"value\":3},{\"_type\":\"AST.Integer\",\"value\":1}]}") ≡ as_read Other [] 1
unfolding digits serde_json_on_literals
two_arguments = refl

no_argument : reads (codes "{\"_type\":\"AST.SquareOp\",\"var\":{\"_type\":\"AST.Identifier\",\"value\":\"x\"},\"arguments\":[]}") ≡ as_read Other [] 1
unfolding digits serde_json_on_literals
no_argument = refl

argument_text : reads (codes "{\"_type\":\"AST.SquareOp\",\"var\":{\"_type\":\"AST.Identifier\",\"value\":\"x\"},\"arguments\":[\"3\"]}") ≡ as_read Other [] 1
unfolding digits serde_json_on_literals
argument_text = refl

slice_without_low : reads (codes "{\"_type\":\"AST.SquareOp\",\"var\":{\"_type\":\"AST.Identifier\",\"value\":\"x\"},\"arguments\":[{\"_type\":\"AST.Slice\",\"left\":{\"_type\":\"AST.Integer\",\"value\":3}}]}") ≡ as_read Other [] 1
unfolding digits serde_json_on_literals
slice_without_low = refl

slice_without_high : reads (codes "{\"_type\":\"AST.SquareOp\",\"var\":{\"_type\":\"AST.Identifier\",\"value\":\"x\"},\"arguments\":[{\"_type\":\"AST.Slice\",\"right\":{\"_type\":\"AST.Integer\",\"value\":3}}]}") ≡ as_read Other [] 1
unfolding digits serde_json_on_literals
slice_without_high = refl

slice_to_null : reads (codes "{\"_type\":\"AST.SquareOp\",\"var\":{\"_type\":\"AST.Identifier\",\"value\":\"x\"},\"arguments\":[{\"_type\":\"AST.Slice\",\"left\":{\"_type\":\"AST.Integer\",\"value\":3},\"right\":null}]}") ≡ as_read Other [] 1
unfolding digits serde_json_on_literals
slice_to_null = refl

slice_of_nothing : reads (codes "{\"_type\":\"AST.SquareOp\",\"arguments\":[{\"_type\":\"AST.Integer\",\"value\":3}]}") ≡ as_read Other [] 1
unfolding digits serde_json_on_literals
slice_of_nothing = refl

slice_of_number : reads (codes "{\"_type\":\"AST.SquareOp\",\"var\":1,\"arguments\":[{\"_type\":\"AST.Integer\",\"value\":3}]}") ≡ as_read Other [] 1
unfolding digits serde_json_on_literals
slice_of_number = refl

slice_to_number : reads (codes "{\"_type\":\"AST.SquareOp\",\"var\":{\"_type\":\"AST.Identifier\",\"value\":\"x\"},\"arguments\":[{\"_type\":\"AST.Slice\",\"left\":{\"_type\":\"AST.Integer\",\"value\":3},\"right\":1}]}") ≡ as_read Other [] 1
unfolding digits serde_json_on_literals
slice_to_number = refl

slice_from_text : reads (codes "{\"_type\":\"AST.SquareOp\",\"var\":{\"_type\":\"AST.Identifier\",\"value\":\"x\"},\"arguments\":[{\"_type\":\"AST.Slice\",\"left\":\"3\",\"right\":{\"_type\":\"AST.Integer\",\"value\":1}}]}") ≡ as_read Other [] 1
unfolding digits serde_json_on_literals
slice_from_text = refl

-- `arguments` that are absent, or a slice in place of an array
square_alone : reads (codes "{\"_type\":\"AST.SquareOp\",\"var\":{\"_type\":\"AST.Identifier\",\"value\":\"x\"}}") ≡ as_read Other [] 1
unfolding digits serde_json_on_literals
square_alone = refl

arguments_are_slice : reads (codes "{\"_type\":\"AST.SquareOp\",\"var\":{\"_type\":\"AST.Identifier\",\"value\":\"x\"},\"arguments\":{\"_type\":\"AST.Slice\",\"left\":{\"_type\":\"AST.Integer\",\"value\":3},\"right\":{\"_type\":\"AST.Integer\",\"value\":1}}}") ≡ as_read Other [] 1
unfolding digits serde_json_on_literals
arguments_are_slice = refl

-- an `AST.Slice` elsewhere is Other, also as the end of another
slice_outside : reads (codes "{\"_type\":\"AST.Slice\",\"left\":{\"_type\":\"AST.Integer\",\"value\":3},\"right\":{\"_type\":\"AST.Integer\",\"value\":1}}") ≡ as_read Other [] 1
unfolding digits serde_json_on_literals
slice_outside = refl

slice_in_slice : reads (codes "{\"_type\":\"AST.SquareOp\",\"var\":{\"_type\":\"AST.Identifier\",\"value\":\"x\"},\"arguments\":[{\"_type\":\"AST.Slice\",\"left\":{\"_type\":\"AST.Slice\",\"left\":{\"_type\":\"AST.Integer\",\"value\":3},\"right\":{\"_type\":\"AST.Integer\",\"value\":2}},\"right\":{\"_type\":\"AST.Integer\",\"value\":1}}]}") ≡ as_read (Slice (Name (codes "x")) Other (Integer (pos 1))) (codes "x" ∷ []) 4
unfolding digits serde_json_on_literals
slice_in_slice = refl

slice_as_var : reads (codes "{\"_type\":\"AST.SquareOp\",\"var\":{\"_type\":\"AST.Slice\",\"left\":{\"_type\":\"AST.Integer\",\"value\":3},\"right\":{\"_type\":\"AST.Integer\",\"value\":1}},\"arguments\":[{\"_type\":\"AST.Integer\",\"value\":0}]}") ≡ as_read (Slice Other (Integer (pos 0)) (Integer (pos 0))) [] 3
unfolding digits serde_json_on_literals
slice_as_var = refl

slice_as_argument : reads (codes "{\"_type\":\"AST.Function\",\"name\":\"UInt\",\"arguments\":[{\"_type\":\"AST.Slice\",\"left\":{\"_type\":\"AST.Integer\",\"value\":3},\"right\":{\"_type\":\"AST.Integer\",\"value\":1}}]}") ≡ as_read (Call UInt (expr Other no_exprs)) [] 2
unfolding digits serde_json_on_literals
slice_as_argument = refl

slice_as_element : reads (codes "{\"_type\":\"AST.Set\",\"values\":[{\"_type\":\"AST.Slice\",\"left\":{\"_type\":\"AST.Integer\",\"value\":3},\"right\":{\"_type\":\"AST.Integer\",\"value\":1}},{\"_type\":\"AST.Integer\",\"value\":0}]}") ≡ as_read (Set (expr Other (expr (Integer (pos 0)) no_exprs))) [] 3
unfolding digits serde_json_on_literals
slice_as_element = refl

-- ---- Other, and what is no object

empty_object : reads (codes "{}") ≡ as_read Other [] 1
unfolding digits serde_json_on_literals
empty_object = refl

kind_of_number : reads (codes "{\"_type\":1,\"value\":true}") ≡ as_read Other [] 1
unfolding digits serde_json_on_literals
kind_of_number = refl

unlisted_kind : reads (codes "{\"_type\":\"AST.Bar\",\"value\":true}") ≡ as_read Other [] 1
unfolding digits serde_json_on_literals
unlisted_kind = refl

-- of two kinds the last counts
kind_doubled : reads (codes "{\"_type\":\"AST.Integer\",\"value\":true,\"_type\":\"AST.Bool\"}") ≡ as_read (Boolean true) [] 1
unfolding digits serde_json_on_literals
kind_doubled = refl

-- a part that is Other is kept inside its owner
other_kept : reads (codes "{\"_type\":\"AST.UnaryOp\",\"op\":\"!\",\"expr\":{\"_type\":\"AST.Bar\",\"value\":{\"_type\":\"AST.Identifier\",\"value\":\"a\"}}}") ≡ as_read (Not Other) [] 2
unfolding digits serde_json_on_literals
other_kept = refl

all_parts_other : reads (codes "{\"_type\":\"AST.SquareOp\",\"var\":{},\"arguments\":[{\"_type\":\"AST.Slice\",\"left\":{},\"right\":{}}]}") ≡ as_read (Slice Other Other Other) [] 4
unfolding digits serde_json_on_literals
all_parts_other = refl

-- members that are not named are not read
members_unread : reads (codes "{\"_type\":\"AST.Bool\",\"value\":false,\"left\":1,\"expr\":null}") ≡ as_read (Boolean false) [] 1
unfolding digits serde_json_on_literals
members_unread = refl

-- a value that is no object is a fault at its place
an_array : reads (codes "[]") ≡ wrong_at (codes "")
unfolding digits serde_json_on_literals
an_array = refl

a_null : reads (codes "null") ≡ wrong_at (codes "")
unfolding digits serde_json_on_literals
a_null = refl

a_truth : reads (codes "true") ≡ wrong_at (codes "")
unfolding digits serde_json_on_literals
a_truth = refl

a_text : reads (codes "\"FEAT_AES\"") ≡ wrong_at (codes "")
unfolding digits serde_json_on_literals
a_text = refl
