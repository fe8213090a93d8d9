-- The feature that an expression asks for, in steps.
use Rattle.std.specs.Prelude.{ℕ, Bool, true, false, Option, Some, None}
use Rattle.spec_expressions.specs.Expression.{FunctionOf, IsFeatureImplemented, ExprOf, Name, ExprsOf, no_exprs, expr}

abbrev pub plain_name : ExprOf ℕ → Option ℕ
plain_name (Name s) = Some s
plain_name e = None

abbrev pub sole_name : ExprsOf ℕ → Option ℕ
sole_name (expr e no_exprs) = plain_name e
sole_name es = None

abbrev pub is_feature_test : FunctionOf ℕ → Bool
is_feature_test IsFeatureImplemented = true
is_feature_test f = false
