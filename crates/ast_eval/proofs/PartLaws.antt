-- The values of the parts of an expression.
use Rattle.std.proofs.Common.{◌≡◌, ◌∙◌, refl, sym, ap, ℕ, ◌+◌, ◌<◌, ◌≤◌, List, [], ◌∷◌, length, drop, get_or, arith}
use Rattle.std.proofs.lemmas.List.{drop_more}
use Rattle.spec_expressions.specs.Expression.{ExprOf, Boolean, Integer, Bits, Name, Not, Binary, Call, Set, Join, Slice, Other, Exprs, Expr, expr, with_names, all_with_names}
use Rattle.spec_expressions.specs.Truth.{Truth, Yes, No, Open, disjunction}
use Rattle.spec_expressions.specs.Scope.{Configuration}
use Rattle.spec_expressions.specs.Operations.{Value, ATruth, equal, among}
use Rattle.spec_expressions.specs.Value.{values, implemented}
use Rattle.mrs_arena.specs.declared.expr_id.ExprId.{ExprId}
use Rattle.mrs_arena.specs.declared.func.Func.{Func}
use Rattle.mrs_arena.specs.declared.func.Func.TheVariants.{UInt, IsZero, IsOnes, IsFeatureImplemented, Named}
use Rattle.mrs_arena.specs.Flat.{FlatItem}
use Rattle.mrs_arena.specs.Expressions.{expr_at, list_of, function_of}
use Rattle.ast_eval.specs.Choices.{Choices, configuration_of}
use Rattle.ast_eval.specs.Fields.{fields_by}
use Rattle.ast_eval.specs.Worth.{value_by, own_text}

module _ (exprs : List (ExprOf ℕ)) (c : Choices) (items : List FlatItem) (w : ℕ) where
  -- the values of these parts
  abbrev pub worths : List ExprId → List Value
  worths parts = values (all_with_names own_text (list_of (expr_at exprs) parts)) (configuration_of own_text c) (fields_by own_text items) w

  -- ---- more than one argument

  no_feature : (e f : Expr) (es : Exprs) (g : Configuration) → Open ≡ implemented (expr e (expr f es)) g
  no_feature (Boolean b) f es g = refl
  no_feature (Integer n) f es g = refl
  no_feature (Bits ds) f es g = refl
  no_feature (Name s) f es g = refl
  no_feature (Not e) f es g = refl
  no_feature (Binary op l r) f es g = refl
  no_feature (Call name args) f es g = refl
  no_feature (Set members) f es g = refl
  no_feature (Join parts) f es g = refl
  no_feature (Slice e high low) f es g = refl
  no_feature Other f es g = refl

  pub many_arguments : (func : Func) (args : List ExprId) → 2 ≤ length args → ATruth Open ≡ value_by own_text (Call (function_of func) (list_of (expr_at exprs) args)) c items w
  many_arguments func [] many = absurd (omega (arith, many))
  many_arguments func (a ∷ []) many = absurd (omega (arith, many))
  many_arguments UInt (a ∷ b ∷ args) many = refl
  many_arguments IsZero (a ∷ b ∷ args) many = refl
  many_arguments IsOnes (a ∷ b ∷ args) many = refl
  many_arguments IsFeatureImplemented (a ∷ b ∷ args) many =
      ap ATruth (no_feature (with_names own_text (expr_at exprs a.0)) (with_names own_text (expr_at exprs b.0)) (all_with_names own_text (list_of (expr_at exprs) args)) (configuration_of own_text c))
  many_arguments (Named name) (a ∷ b ∷ args) many = refl

  -- ---- elements of a set

  disjunction-assoc : (a b d : Truth) → disjunction (disjunction a b) d ≡ disjunction a (disjunction b d)
  disjunction-assoc Yes b d = refl
  disjunction-assoc No b d = refl
  disjunction-assoc Open Yes d = refl
  disjunction-assoc Open No Yes = refl
  disjunction-assoc Open No No = refl
  disjunction-assoc Open No Open = refl
  disjunction-assoc Open Open Yes = refl
  disjunction-assoc Open Open No = refl
  disjunction-assoc Open Open Open = refl

  -- one element further
  pub among-next : (v x : Value) (before here after : Truth) (parts : List ExprId) (i : ℕ) (d : ExprId) → i < length parts → x ≡ value_by own_text (expr_at exprs (get_or parts i d).0) c items w
      → here ≡ equal v x → after ≡ disjunction before here → disjunction after (among v (worths (drop (i + 1) parts))) ≡ disjunction before (among v (worths (drop i parts)))
  among-next v x before here after parts i d within is_value is_equal is_or =
      ap (λ t. disjunction t (among v (worths (drop (i + 1) parts)))) (is_or ∙ ap (disjunction before) (is_equal ∙ ap (equal v) is_value))
      ∙ disjunction-assoc before (equal v (value_by own_text (expr_at exprs (get_or parts i d).0) c items w)) (among v (worths (drop (i + 1) parts)))
      ∙ sym (ap (λ ps. disjunction before (among v (worths ps))) (drop_more parts i d within))
