-- Atoms that were found, and the number of each class.
use Rattle.std.specs.Prelude.{◌≡◌, ℕ, ◌<◌, List, [], ◌∷◌, ◌++◌, map, length, All, Option, Some, None, position, slice_get, unwrap_or, option_and_then}
use Rattle.spec_expressions.specs.Expression.{ExprOf}
use Rattle.mrs_arena.specs.Expressions.{expr_at}
use Rattle.mrs_arena.specs.declared.expr_id.ExprId.{ExprId}
use Rattle.expr_classes.specs.Classes.{class_in, same_class}

-- the atoms themselves
abbrev pub atoms_of : List (ExprOf ℕ) → List ExprId → List (ExprOf ℕ)
atoms_of exprs found = map (λ (e : ExprId). expr_at exprs e.0) found

abbrev pub number_in : List (Option ℕ) → ℕ → Option ℕ
number_in numbers class = unwrap_or (slice_get numbers class) None

-- each class has the number of its first atom, if it has one
pub record AreNumbered (classes : List (Option ℕ)) (count : ℕ) (found : List ExprId) (numbers : List (Option ℕ)) : Type 0 where
  pub as_many : length numbers ≡ count
  pub within : All (λ e. e.0 < length classes) found
  pub each : (c : ℕ) → c < count → number_in numbers c ≡ position (λ (e : ExprId). same_class (Some c) (class_in classes e.0)) found

-- the number of the atom of an expression's class
abbrev pub number_of : List (Option ℕ) → List (Option ℕ) → ℕ → Option ℕ
number_of classes numbers e = option_and_then (number_in numbers) (class_in classes e)

-- an atom joins those that were found unless it has a number
abbrev pub with_atom : Option ℕ → ExprId → List ExprId → List ExprId
with_atom (Some n) e found = found
with_atom None e found = found ++ e ∷ []
