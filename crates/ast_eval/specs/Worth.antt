-- What an expression of an arena is worth. Names are numbers there; each number stands for a text of its own.
use Rattle.std.specs.Prelude.{◌≡◌, ℕ, ◌<◌, List, [], ◌∷◌, All, length, Option, Some, option_map}
use Rattle.spec_expressions.specs.Expression.{ExprOf, with_names}
use Rattle.spec_expressions.specs.Truth.{Truth}
use Rattle.spec_expressions.specs.Operations.{Value}
use Rattle.spec_expressions.specs.Value.{value, truth}
use Rattle.mrs_names.specs.Texts.{AreNames}
use Rattle.mrs_arena.specs.declared.expr_id.ExprId.{ExprId}
use Rattle.mrs_arena.specs.Flat.{FlatItem}
use Rattle.mrs_arena.specs.Expressions.{expr_at}
use Rattle.mrs_arena.specs.Placed.{text_of, IsHeldItem, IsHeldExpr}
use Rattle.ast_eval.specs.Choices.{Choices, configuration_of}
use Rattle.ast_eval.specs.Fields.{fields_by}

-- the value of an expression under a configuration, behind items and at a word, by these texts of names
abbrev pub value_by : (ℕ → List ℕ) → ExprOf ℕ → Choices → List FlatItem → ℕ → Value
value_by text e c items w = value (with_names text e) (configuration_of text c) (fields_by text items) w

-- the truth of a condition that may be there
abbrev pub truth_by : (ℕ → List ℕ) → Option (ExprOf ℕ) → Choices → List FlatItem → ℕ → Truth
truth_by text e c items w = truth (option_map (with_names text) e) (configuration_of text c) (fields_by text items) w

-- a text of its own for each number
abbrev pub own_text : ℕ → List ℕ
own_text name = name ∷ []

-- the expression of a number that may be there
abbrev pub condition_at : List (ExprOf ℕ) → Option ExprId → Option (ExprOf ℕ)
condition_at exprs e = option_map (expr_at exprs) (option_map (λ id. id.0) e)

-- distinct names are held, among them each name in an expression that may be there, of a parameter and of an item
pub record AreAllHeld (names : List (List ℕ)) (e : Option (ExprOf ℕ)) (c : Choices) (items : List FlatItem) : Type 0 where
  pub distinct : AreNames names
  pub expression : IsHeldExpr names e
  pub parameters : All (λ name. name < length names) c.names
  pub fields : All (IsHeldItem names) items

-- by the texts of any names that are held, a value is that of the expression, and a truth that of the condition
abbrev pub IsValue : ExprOf ℕ → Choices → List FlatItem → ℕ → Value → Type 0
IsValue e c items w v = (names : List (List ℕ)) → AreAllHeld names (Some e) c items → v ≡ value_by (text_of names) e c items w

abbrev pub IsTruth : Option (ExprOf ℕ) → Choices → List FlatItem → ℕ → Truth → Type 0
IsTruth e c items w t = (names : List (List ℕ)) → AreAllHeld names e c items → t ≡ truth_by (text_of names) e c items w
