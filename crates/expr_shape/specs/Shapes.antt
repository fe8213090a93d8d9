-- What this crate's shapes and kinds stand for.
use Rattle.std.specs.Prelude.{◌≡◌, Some, codes, option_and_then, ⊤}
use Rattle.serde_json.specs.Data.{Data}
use Rattle.serde_json.specs.Find.{get}
use Rattle.serde_json.specs.View.{view}
use Rattle.serde_json.specs.declared.value.Value.{Value}
use Rattle.bit_pattern.specs.Views.{digits_of}
use Rattle.spec_expressions.specs.Expression as expression
use Rattle.spec_expressions.specs.Kind as kinds
use Rattle.spec_expressions.specs.Shape as shapes
use Rattle.spec_expressions.specs.Shape.{the_one}
use Rattle.mrs_arena.specs.Expressions.{op_of}
use Rattle.expr_shape.specs.declared.shape.Shape.{Shape}
use Rattle.expr_shape.specs.declared.shape.Shape.TheVariants.{Truth, Integer, Bits, Name, Not, Binary, Call, Set, Join, Index, Slice, Other}
use Rattle.expr_shape.specs.declared.kind.ExprKind.{ExprKind}
use Rattle.expr_shape.specs.declared.kind.ExprKind.TheVariants as kind

abbrev pub shape_is : Shape → shapes.Shape
shape_is (Truth b) = shapes.Plain (expression.Boolean b)
shape_is (Integer n) = shapes.Plain (expression.Integer n)
shape_is (Bits p) = shapes.Plain (expression.Bits (digits_of p))
shape_is (Name s) = shapes.AName s.now
shape_is Not = shapes.ANot
shape_is (Binary op) = shapes.ABinary (op_of op)
shape_is (Call s) = shapes.ACall s.now
shape_is Set = shapes.ASet
shape_is Join = shapes.AJoin
shape_is (Index argument) = shapes.AnIndex
shape_is (Slice argument) = shapes.ASlice
shape_is Other = shapes.Plain expression.Other

-- the argument of a square operator is the one element of `arguments`
abbrev pub IsArgument : Data → Value → Type 0
IsArgument d argument = option_and_then the_one (get (codes "arguments") d) ≡ Some (view argument)

abbrev pub HasArgument : Data → Shape → Type 0
HasArgument d (Truth b) = ⊤
HasArgument d (Integer n) = ⊤
HasArgument d (Bits p) = ⊤
HasArgument d (Name s) = ⊤
HasArgument d Not = ⊤
HasArgument d (Binary op) = ⊤
HasArgument d (Call s) = ⊤
HasArgument d Set = ⊤
HasArgument d Join = ⊤
HasArgument d (Index argument) = IsArgument d argument.now
HasArgument d (Slice argument) = IsArgument d argument.now
HasArgument d Other = ⊤

abbrev pub kind_of : ExprKind → kinds.ExprKind
kind_of kind.Truth = kinds.OfBool
kind_of kind.Integer = kinds.OfInteger
kind_of kind.Bits = kinds.OfBits
kind_of kind.Identifier = kinds.OfIdentifier
kind_of kind.Unary = kinds.OfUnary
kind_of kind.Binary = kinds.OfBinary
kind_of kind.Function = kinds.OfFunction
kind_of kind.Set = kinds.OfSet
kind_of kind.Concat = kinds.OfConcat
kind_of kind.Square = kinds.OfSquare
