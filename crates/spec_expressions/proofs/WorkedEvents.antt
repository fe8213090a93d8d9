-- Worked values: what is met in an expression, in which order, and where the limits are passed.
use Rattle.std.specs.Prelude.{◌≡◌, ℕ, List, [], ◌∷◌, true, Option, Some, Result, Ok, Err, option_map, codes, refl}
use Rattle.std.specs.Fmt.{digits}
use Rattle.serde_json.specs.Read.{read}
use Rattle.serde_json.proofs.OnLiterals.{serde_json_on_literals}
use Rattle.spec_walk.specs.Event.{AnExpression, TooMany, Fault, Event, Name, OneMore}
use Rattle.spec_walk.specs.Limits.{Counts, from_held}
use Rattle.spec_walk.specs.Walk.{gives, events}
use Rattle.spec_walk.specs.Spot.{root}
use Rattle.spec_expressions.specs.Expression.{Expr, Boolean, Not}
use Rattle.spec_expressions.specs.Reading.{expression}

abbrev met : List ℕ → Option (List Event)
met text = option_map (λ d. events (expression (root d))) (read text)

-- what a text is read as where so many expressions were counted before it
abbrev from_count : ℕ → List ℕ → Option (Result (Expr × Counts) Fault)
from_count count text = option_map (λ d. gives (expression (root d)) (record (from_held []) { expressions = count })) (read text)

abbrev too_many : List ℕ → Option (Result (Expr × Counts) Fault)
too_many at = Some (Err (record { at = at; why = TooMany }))

-- ---- the order in which names and expressions are met

-- a name, and then the expression that holds it
name_then_itself : met (codes "{\"_type\":\"AST.Identifier\",\"value\":\"a\"}") ≡ Some (Name (codes "") (codes "a") ∷ OneMore AnExpression (codes "") ∷ [])
unfolding digits serde_json_on_literals
name_then_itself = refl

-- parts before their owner, the left one first, whatever the order of the members
parts_first : met (codes "{\"_type\":\"AST.BinaryOp\",\"op\":\"&&\",\"left\":{\"_type\":\"AST.Identifier\",\"value\":\"a\"},\"right\":{\"_type\":\"AST.UnaryOp\",\"op\":\"!\",\"expr\":{\"_type\":\"AST.Identifier\",\"value\":\"b\"}}}") ≡ Some (Name (codes "/left") (codes "a") ∷ OneMore AnExpression (codes "/left") ∷ Name (codes "/right/expr") (codes "b") ∷ OneMore AnExpression (codes "/right/expr") ∷ OneMore AnExpression (codes "/right") ∷ OneMore AnExpression (codes "") ∷ [])
unfolding digits serde_json_on_literals
parts_first = refl

-- arguments, then the name of the function, then the call
arguments_then_name : met (codes "{\"_type\":\"AST.Function\",\"name\":\"F\",\"arguments\":[{\"_type\":\"AST.Identifier\",\"value\":\"a\"},{\"_type\":\"AST.Function\",\"name\":\"UInt\",\"arguments\":[{\"_type\":\"AST.Integer\",\"value\":1}]}]}") ≡ Some (Name (codes "/arguments/0") (codes "a") ∷ OneMore AnExpression (codes "/arguments/0") ∷ OneMore AnExpression (codes "/arguments/1/arguments/0") ∷ OneMore AnExpression (codes "/arguments/1") ∷ Name (codes "") (codes "F") ∷ OneMore AnExpression (codes "") ∷ [])
unfolding digits serde_json_on_literals
arguments_then_name = refl

elements_in_order : met (codes "{\"_type\":\"AST.Set\",\"values\":[{\"_type\":\"AST.Identifier\",\"value\":\"b\"},{\"_type\":\"AST.Identifier\",\"value\":\"a\"}]}") ≡ Some (Name (codes "/values/0") (codes "b") ∷ OneMore AnExpression (codes "/values/0") ∷ Name (codes "/values/1") (codes "a") ∷ OneMore AnExpression (codes "/values/1") ∷ OneMore AnExpression (codes "") ∷ [])
unfolding digits serde_json_on_literals
elements_in_order = refl

-- the bits, the high end, the low end
slice_in_order : met (codes "{\"_type\":\"AST.SquareOp\",\"var\":{\"_type\":\"AST.Identifier\",\"value\":\"x\"},\"arguments\":[{\"_type\":\"AST.Slice\",\"left\":{\"_type\":\"AST.Identifier\",\"value\":\"h\"},\"right\":{\"_type\":\"AST.Identifier\",\"value\":\"l\"}}]}") ≡ Some (Name (codes "/var") (codes "x") ∷ OneMore AnExpression (codes "/var") ∷ Name (codes "/arguments/0/left") (codes "h") ∷ OneMore AnExpression (codes "/arguments/0/left") ∷ Name (codes "/arguments/0/right") (codes "l") ∷ OneMore AnExpression (codes "/arguments/0/right") ∷ OneMore AnExpression (codes "") ∷ [])
unfolding digits serde_json_on_literals
slice_in_order = refl

-- one argument that is both ends
index_once : met (codes "{\"_type\":\"AST.SquareOp\",\"var\":{\"_type\":\"AST.Identifier\",\"value\":\"x\"},\"arguments\":[{\"_type\":\"AST.Identifier\",\"value\":\"i\"}]}") ≡ Some (Name (codes "/var") (codes "x") ∷ OneMore AnExpression (codes "/var") ∷ Name (codes "/arguments/0") (codes "i") ∷ OneMore AnExpression (codes "/arguments/0") ∷ OneMore AnExpression (codes "") ∷ [])
unfolding digits serde_json_on_literals
index_once = refl

-- an object of another shape: nothing inside it is met
other_alone : met (codes "{\"_type\":\"AST.BinaryOp\",\"op\":\"&&\",\"left\":{\"_type\":\"AST.Identifier\",\"value\":\"a\"},\"right\":null}") ≡ Some (OneMore AnExpression (codes "") ∷ [])
unfolding digits serde_json_on_literals
other_alone = refl

-- ---- the limits, each at the expression that passes it

last_part : from_count 4194302 (codes "{\"_type\":\"AST.UnaryOp\",\"op\":\"!\",\"expr\":{\"_type\":\"AST.Bool\",\"value\":true}}") ≡ Some (Ok (Not (Boolean true), record (from_held []) { expressions = 4194304 }))
unfolding digits serde_json_on_literals
last_part = refl

owner_too_many : from_count 4194303 (codes "{\"_type\":\"AST.UnaryOp\",\"op\":\"!\",\"expr\":{\"_type\":\"AST.Bool\",\"value\":true}}") ≡ too_many (codes "")
unfolding digits serde_json_on_literals
owner_too_many = refl

part_too_many : from_count 4194304 (codes "{\"_type\":\"AST.UnaryOp\",\"op\":\"!\",\"expr\":{\"_type\":\"AST.Bool\",\"value\":true}}") ≡ too_many (codes "/expr")
unfolding digits serde_json_on_literals
part_too_many = refl

high_end_too_many : from_count 4194303 (codes "{\"_type\":\"AST.SquareOp\",\"var\":{\"_type\":\"AST.Identifier\",\"value\":\"x\"},\"arguments\":[{\"_type\":\"AST.Slice\",\"left\":{\"_type\":\"AST.Integer\",\"value\":1},\"right\":{\"_type\":\"AST.Integer\",\"value\":0}}]}") ≡ too_many (codes "/arguments/0/left")
unfolding digits serde_json_on_literals
high_end_too_many = refl

low_end_too_many : from_count 4194302 (codes "{\"_type\":\"AST.SquareOp\",\"var\":{\"_type\":\"AST.Identifier\",\"value\":\"x\"},\"arguments\":[{\"_type\":\"AST.Slice\",\"left\":{\"_type\":\"AST.Integer\",\"value\":1},\"right\":{\"_type\":\"AST.Integer\",\"value\":0}}]}") ≡ too_many (codes "/arguments/0/right")
unfolding digits serde_json_on_literals
low_end_too_many = refl

other_too_many : from_count 4194304 (codes "{}") ≡ too_many (codes "")
unfolding digits serde_json_on_literals
other_too_many = refl
