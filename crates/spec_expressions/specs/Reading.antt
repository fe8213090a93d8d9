-- An expression as a walk over the JSON value that holds it: one walk for all places where an expression may stand.
use Rattle.std.specs.Prelude.{ℕ, List, [], ◌∷◌, codes}
use Rattle.spec_walk.specs.Event.{AnExpression}
use Rattle.spec_walk.specs.Walk.{Walk, Done, ◌>>>◌}
use Rattle.spec_walk.specs.Spot.{Spot, an_object, named, one_more}
use Rattle.spec_walk.specs.Descend.{Inside, Reader, at_spot}
use Rattle.spec_expressions.specs.Expression.{Function, UInt, IsZero, IsOnes, IsFeatureImplemented, Named, function_named, Expr, Name, Not, Binary, Call, Set, Join, Slice, Other, exprs_of}
use Rattle.spec_expressions.specs.Shape.{Shape, Plain, AName, ANot, ABinary, ACall, ASet, AJoin, AnIndex, ASlice, shape_of}

-- what is read of a value: itself as an expression, or a member of it
pub data Wanted : Type 0 where
  Itself : Wanted
  Its : List ℕ → Wanted

-- an expression is counted at its object, behind its parts and the name that it holds
abbrev pub counted : Spot → Expr → Walk Expr
counted here e = one_more AnExpression here >>> λ _. Done e

-- the names of the functions with a meaning of their own take no number
abbrev pub function_at : Spot → Function → Walk Function
function_at here UInt = Done UInt
function_at here IsZero = Done IsZero
function_at here IsOnes = Done IsOnes
function_at here IsFeatureImplemented = Done IsFeatureImplemented
function_at here (Named s) = named here s >>> λ _. Done (Named s)

-- the one expression of a list, where there is one
abbrev pub sole : List Expr → Expr
sole [] = Other
sole (e ∷ es) = e

-- the argument of a square operator, or a member of it: by the operator's shape there is one
abbrev pub argument : Wanted → Inside Wanted Expr → Walk Expr
argument wanted inside = inside.parts wanted (codes "arguments") >>> λ es. Done (sole es)

-- an expression of a shape, its parts first. The one argument that is both the high end and the low one is read once
abbrev pub formed : Spot → Inside Wanted Expr → Shape → Walk Expr
formed here inside (Plain e) = counted here e
formed here inside (AName s) = named here s >>> λ _. counted here (Name s)
formed here inside ANot = inside.part Itself (codes "expr") >>> λ e. counted here (Not e)
formed here inside (ABinary op) = inside.part Itself (codes "left") >>> λ l. inside.part Itself (codes "right") >>> λ r. counted here (Binary op l r)
formed here inside (ACall s) = inside.parts Itself (codes "arguments") >>> λ es. function_at here (function_named s) >>> λ f. counted here (Call f (exprs_of es))
formed here inside ASet = inside.parts Itself (codes "values") >>> λ es. counted here (Set (exprs_of es))
formed here inside AJoin = inside.parts Itself (codes "values") >>> λ es. counted here (Join (exprs_of es))
formed here inside AnIndex = inside.part Itself (codes "var") >>> λ e. argument Itself inside >>> λ bit. counted here (Slice e bit bit)
formed here inside ASlice =
    inside.part Itself (codes "var") >>> λ e.
    argument (Its (codes "left")) inside >>> λ high.
    argument (Its (codes "right")) inside >>> λ low.
    counted here (Slice e high low)

abbrev pub reader : Reader Wanted Expr
reader Itself here inside = an_object here >>> λ _. formed here inside (shape_of here.value)
reader (Its key) here inside = inside.part Itself key

-- the expression at a place: limits apart, a value that is no object is a fault, and nothing else is
abbrev pub expression : Spot → Walk Expr
expression here = at_spot reader Itself here
