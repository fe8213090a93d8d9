-- Classes of the expressions of an arena.
use Rattle.std.specs.Prelude.{◌≡◌, ◌==◌, ℕ, ◌<◌, ◌++◌, Bool, true, false, nat_eq, List, [], length, Option, Some, None, option_map, slice_get, unwrap_or}
use Rattle.std.proofs.Common.{inl, inr}
use Rattle.spec_expressions.specs.Expression.{ExprOf, ExprsOf}
use Rattle.spec_features.specs.Fact.{same_fact, no_other, no_others}
use Rattle.mrs_arena.specs.Expressions.{expr_at, list_of}
use Rattle.mrs_arena.specs.declared.expr_id.ExprId.{ExprId}
use Rattle.mrs_arena.specs.declared.expr_ref.ExprRef.{ExprRef}
use Rattle.mrs_arena.specs.declared.expr_ref.ExprRef.TheVariants as ref
use Rattle.expr_classes.specs.declared.key.Key.{Key}
use Rattle.expr_classes.specs.declared.key.Key.TheVariants as key
use Rattle.expr_classes.specs.Terms.{Term, IsExpr, IsExprs}

-- the class of a number, if it has one
abbrev pub class_in : List (Option ℕ) → ℕ → Option ℕ
class_in classes k = unwrap_or (slice_get classes k) None

-- two have one class
abbrev pub same_class : Option ℕ → Option ℕ → Bool
same_class (Some c) (Some d) = c == d
same_class c d = false

-- two expressions have one class exactly where they state one fact; what holds an Other has none
pub record AreClasses (exprs : List (ExprOf ℕ)) (classes : List (Option ℕ)) : Type 0 where
  pub as_many : length classes ≡ length exprs
  pub same : (i j : ℕ) → i < length exprs → j < length exprs → same_class (class_in classes i) (class_in classes j) ≡ same_fact nat_eq (expr_at exprs i) (expr_at exprs j)

-- classes, each below a number
pub record Numbered : Type 0 where
  pub classes : List (Option ℕ)
  pub count : ℕ

abbrev pub AreBelow : Numbered → Type 0
AreBelow n = (k c : ℕ) → k < length n.classes → class_in n.classes k ≡ Some c → c < n.count

-- ---- on the way

-- a class stands for an expression, or there is none since it holds an Other
abbrev pub Stands : List Term → Option ℕ → ExprOf ℕ → Type 0
Stands terms (Some c) e = (slice_get terms c ≡ Some (inl e)) × (no_other e ≡ true)
Stands terms None e = no_other e ≡ false

abbrev pub ListStands : List Term → Option ℕ → ExprsOf ℕ → Type 0
ListStands terms (Some c) es = (slice_get terms c ≡ Some (inr es)) × (no_others es ≡ true)
ListStands terms None es = no_others es ≡ false

-- the classes up to now stand for the first expressions
abbrev pub AllStand : List Term → List (Option ℕ) → List (ExprOf ℕ) → Type 0
AllStand terms classes exprs = (k : ℕ) → k < length classes → Stands terms (class_in classes k) (expr_at exprs k)

-- each class is that of an expression
abbrev pub HaveExprs : List Term → List (Option ℕ) → Type 0
HaveExprs terms classes = (k c : ℕ) → class_in classes k ≡ Some c → IsExpr terms c

-- terms only join
abbrev pub Grown : List Term → List Term → Type 0
Grown old new = (more : List Term) × (new ≡ old ++ more)

-- a class stands for the list of some parts
pub record ListAt (start now : List Term) (classes : List (Option ℕ)) (rest : List ExprId) (class : ℕ) : Type 0 where
  pub grown : Grown start now
  pub have : HaveExprs now classes
  pub list : IsExprs now class
  pub stands : (exprs : List (ExprOf ℕ)) → AllStand start classes exprs → ListStands now (Some class) (list_of (expr_at exprs) rest)

-- ---- keys of expressions as they are read

abbrev pub of_two : (ℕ → ℕ → Key) → Option ℕ → Option ℕ → Option Key
of_two f (Some a) (Some b) = Some (f a b)
of_two f a b = None

abbrev pub of_three : (ℕ → ℕ → ℕ → Key) → Option ℕ → Option ℕ → Option ℕ → Option Key
of_three f (Some a) (Some b) (Some c) = Some (f a b c)
of_three f a b c = None

abbrev pub key_of : List (Option ℕ) → Option ℕ → ExprRef → Option Key
key_of classes list (ref.Truth b) = Some (key.Truth b)
key_of classes list (ref.Integer n) = Some (key.Integer n)
key_of classes list (ref.Bits p) = Some (key.Bits p.width p.mask p.value)
key_of classes list (ref.Name name) = Some (key.Name name)
key_of classes list (ref.Not a) = option_map key.Not (class_in classes a.0)
key_of classes list (ref.Binary op a b) = of_two (key.Binary op) (class_in classes a.0) (class_in classes b.0)
key_of classes list (ref.Call f args) = option_map (key.Call f) list
key_of classes list (ref.Set members) = option_map key.Set list
key_of classes list (ref.Join parts) = option_map key.Join list
key_of classes list (ref.Slice bits high low) = of_three key.Slice (class_in classes bits.0) (class_in classes high.0) (class_in classes low.0)
key_of classes list ref.Other = None

-- the parts of a list that an expression has
abbrev pub parts_of : ExprRef → List ExprId
parts_of (ref.Call f args) = args.now
parts_of (ref.Set members) = members.now
parts_of (ref.Join parts) = parts.now
parts_of e = []
