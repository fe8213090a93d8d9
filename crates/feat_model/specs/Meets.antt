-- What is met in an expression, as this crate keeps it.
use Rattle.std.specs.Prelude.{◌≡◌, ℕ, ◌<◌, ◌≤◌, List, length, map, true, slice_get, Some, ◌==◌, if◌then◌else◌}
use Rattle.std.specs.List.{list_any}
use Rattle.indexmap.specs.IndexSet.{insert_key}
use Rattle.spec_features.specs.Features.{is_boolean}
use Rattle.features_reader.specs.FeatureViews.{param_kind_of}
use Rattle.spec_expressions.specs.Expression.{ExprOf}
use Rattle.spec_features.specs.Formula as spec
use Rattle.spec_features.specs.Theory.{Met}
use Rattle.mrs_names.specs.declared.name_id.NameId.{NameId}
use Rattle.mrs_arena.specs.Expressions.{expr_at}
use Rattle.mrs_arena.specs.declared.expr_id.ExprId.{ExprId}
use Rattle.features_reader.specs.declared.features.Param.{Param}
use Rattle.expr_classes.specs.Classes.{Numbered, AreClasses, AreBelow}
use Rattle.feat_model.specs.declared.formula.Formula.{Formula}
use Rattle.feat_model.specs.Views.{formula_of}
use Rattle.feat_model.specs.Found.{atoms_of}

abbrev pub numbers_of : List NameId → List ℕ
numbers_of names = map (λ name. name.0) names

-- the classes are those of the expressions, and there are not too many names
pub record IsScope (exprs : List (ExprOf ℕ)) (classes : Numbered) (names : List NameId) : Type 0 where
  pub are : AreClasses exprs classes.classes
  pub below : AreBelow classes
  pub few : length names ≤ 4096

-- the formula, and the atoms that were met up to its end
pub record Meets (exprs : List (ExprOf ℕ)) (m : Met ℕ spec.Formula) (f : Formula) (found : List ExprId) : Type 0 where
  pub formula_is : formula_of f ≡ m.made
  pub atoms_are : atoms_of exprs found ≡ m.atoms

-- the expressions of some numbers
abbrev pub exprs_at : List (ExprOf ℕ) → List ExprId → List (ExprOf ℕ)
exprs_at exprs ids = map (λ id. expr_at exprs id.0) ids

-- formulas one behind the other, and the atoms that were met up to their end
pub record MeetAll (exprs : List (ExprOf ℕ)) (m : Met ℕ (List spec.Formula)) (fs : List Formula) (found : List ExprId) : Type 0 where
  pub formulas_are : map formula_of fs ≡ m.made
  pub atoms_are : atoms_of exprs found ≡ m.atoms

-- each of these names is that of a parameter before an index
abbrev pub ComeFrom : List Param → ℕ → List NameId → Type 0
ComeFrom params i keys = (n : ℕ) → list_any (λ (k : NameId). n == k.0) keys ≡ true → (j : ℕ) × (p : Param) × (j < i) × (slice_get params j ≡ Some p) × (p.name.0 ≡ n)

-- the name of a parameter that is on or off joins the others unless it is among them
abbrev pub with_name : Param → List NameId → List NameId
with_name p keys = if is_boolean (param_kind_of p.kind) then insert_key (λ (a b : NameId). a.0 == b.0) keys p.name else keys
