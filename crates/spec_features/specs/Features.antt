-- Features of the architecture: parameters, and constraints on them. A name is of some type; in a document it is its text.
use Rattle.std.specs.Prelude.{ℕ, Bool, true, false, List, [], map, filter}
use Rattle.std.specs.List.{AllByRecursion}
use Rattle.spec_expressions.specs.Expression as expression
use Rattle.spec_expressions.specs.Expression.{ExprOf}

-- a parameter that is on or off, one that is a whole number, and one that is one of several words. Of the last two the name
-- alone is known
pub data ParamKind : Type 0 where
  ABoolean : ParamKind
  AnInteger : ParamKind
  AnEnum : ParamKind

pub record ParamOf (N : Type 0) : Type 0 where
  pub name : N
  pub kind : ParamKind

-- the parameters, and the constraints that are to hold
pub record FeaturesOf (N : Type 0) : Type 0 where
  pub params : List (ParamOf N)
  pub constraints : List (ExprOf N)

abbrev pub Param : Type 0
Param = ParamOf (List ℕ)

abbrev pub Features : Type 0
Features = FeaturesOf (List ℕ)

abbrev pub is_boolean : ParamKind → Bool
is_boolean ABoolean = true
is_boolean AnInteger = false
is_boolean AnEnum = false

-- the names of the boolean parameters, in order
abbrev pub booleans : {N : Type 0} → List (ParamOf N) → List N
booleans params = map (λ p. p.name) (filter (λ p. is_boolean p.kind) params)

-- parameters of these names, each on or off, and no constraint
abbrev pub booleans_alone : {N : Type 0} → List N → FeaturesOf N
booleans_alone names = record { params = map (λ name. record { name = name; kind = ABoolean }) names; constraints = [] }

-- the most parameters
abbrev pub param_limit : ℕ
param_limit = 4096

-- features with other names in place of theirs
abbrev pub with_names : {M N : Type 0} → (M → N) → FeaturesOf M → FeaturesOf N
with_names f features = record {
  params = map (λ p. record { name = f p.name; kind = p.kind }) features.params;
  constraints = map (expression.with_names f) features.constraints;
}

-- each name that stands in features, as that of a parameter or in a constraint
pub record EachName {N : Type 0} (P : N → Type 0) (features : FeaturesOf N) : Type 0 where
  pub params : AllByRecursion (λ (p : ParamOf N). P p.name) features.params
  pub constraints : AllByRecursion (expression.EachName P) features.constraints
