-- Expressions that are read, by the numbers that stand for them.
use Rattle.std.specs.Prelude.{◌≡◌, ℕ, ◌+◌, ◌<◌, ◌≤◌, List, ◌++◌, length, map, All}
use Rattle.spec_walk.specs.Walk.{Walk, ◌>>>◌}
use Rattle.spec_walk.specs.Spot.{Spot, needed}
use Rattle.spec_walk.specs.Descend.{inside_of, elements_at}
use Rattle.spec_expressions.specs.Expression.{Expr, exprs_of}
use Rattle.spec_expressions.specs.Shape.{Shape}
use Rattle.spec_expressions.specs.Reading.{Itself, reader, formed, expression}
use Rattle.mrs_arena.specs.Expressions.{expr_at, IsList, list_in}
use Rattle.mrs_arena.specs.declared.expr.ExprList.{ExprList}
use Rattle.schema_draft.specs.Drafted.{Drafted}

-- ---- walks

-- an expression of a shape
abbrev pub formed_at : Shape → Spot → Walk Expr
formed_at shape here = formed here (inside_of reader here) shape

-- the expression that a member is, and the list of expressions
abbrev pub part : List ℕ → Spot → Walk Expr
part key here = needed key here >>> expression

abbrev pub parts : List ℕ → Spot → Walk (List Expr)
parts key here = needed key here >>> elements_at reader Itself

-- ---- what was put

-- more expressions were put behind the old ones, and at least n more than parts of lists
pub record Grows (old new : Drafted) (n : ℕ) : Type 0 where
  pub more : List Expr
  pub exprs : new.exprs ≡ old.exprs ++ more
  pub free : length new.parts + (length old.exprs + n) ≤ length new.exprs + length old.parts

-- an expression was put, and that number stands for it; it is no part of a list
pub record IsRead (old new : Drafted) (e : Expr) (id : ℕ) : Type 0 where
  pub grows : Grows old new 1
  pub within : id < length new.exprs
  pub stands : expr_at new.exprs id ≡ e

-- so it is with several
pub record AreRead (old new : Drafted) (es : List Expr) (ids : List ℕ) : Type 0 where
  pub grows : Grows old new (length ids)
  pub within : All (λ id. id < length new.exprs) ids
  pub stand : map (expr_at new.exprs) ids ≡ es

-- expressions were put as the parts of a list
pub record IsListRead (old new : Drafted) (es : List Expr) (list : ExprList) : Type 0 where
  pub grows : Grows old new 0
  pub within : IsList new.parts list
  pub stands : list_in (expr_at new.exprs) new.parts list ≡ exprs_of es
