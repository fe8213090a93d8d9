-- More than one argument.
use Rattle.std.proofs.Common.{◌≡◌, ℕ, ◌≤◌, List, [], ◌∷◌, length, None, refl, arith}
use Rattle.spec_expressions.specs.Expression.{ExprOf}
use Rattle.mrs_arena.specs.Expressions.{list_of}
use Rattle.mrs_arena.specs.declared.expr_id.ExprId.{ExprId}
use Rattle.feat_model.specs.Asked.{sole_name}

pub no_sole : (at : ℕ → ExprOf ℕ) (args : List ExprId) → 2 ≤ length args → None ≡ sole_name (list_of at args)
no_sole at [] le = absurd (omega (arith, le))
no_sole at (a ∷ []) le = absurd (omega (arith, le))
no_sole at (a ∷ b ∷ args) le = refl
