-- The value of an expression under a configuration, the visible fields and a word, a line for each kind of expression.
use Rattle.std.specs.Prelude.{ℕ, List, [], ◌∷◌, Option, Some, None}
use Rattle.spec_expressions.specs.Expression.{Function, UInt, IsZero, IsOnes, IsFeatureImplemented, Expr, Boolean, Integer, Bits, Name, Not, Binary, Call, Set, Join, Slice, Other, Exprs, no_exprs, expr}
use Rattle.spec_expressions.specs.Truth.{Truth, Yes, Open, truth_of, negation}
use Rattle.spec_expressions.specs.Scope.{Field, field_named, field_digits, State, Flag, Configuration, state_of}
use Rattle.spec_expressions.specs.Operations.{Value, ATruth, ANumber, APattern, as_truth, binary, unsigned, all_are, in_a_row, sliced}

-- the value of a parameter's state: of a boolean one its truth; Open where no parameter has the name
abbrev pub state_value : Option State → Value
state_value (Some (Flag b)) = ATruth (truth_of b)
state_value None = ATruth Open

-- a name is the bits of the visible field of that name, else the value of the parameter of that name
abbrev pub name_value : Option Field → Option State → ℕ → Value
name_value (Some f) state w = APattern (field_digits f w)
name_value None state w = state_value state

-- a feature is asked for by its name, whatever fields are visible
abbrev pub implemented : Exprs → Configuration → Truth
implemented (expr (Name s) no_exprs) g = as_truth (state_value (state_of s g))
implemented es g = Open

-- a function of one argument: of its value, or of the name that it is
abbrev pub call : Function → Exprs → List Value → Configuration → Value
call UInt es (v ∷ []) g = unsigned v
call IsZero es (v ∷ []) g = ATruth (all_are 0 v)
call IsOnes es (v ∷ []) g = ATruth (all_are 1 v)
call IsFeatureImplemented es vs g = ATruth (implemented es g)
call f es vs g = ATruth Open

abbrev mutual
  pub value : Expr → Configuration → List Field → ℕ → Value
  value (Boolean b) g fields w = ATruth (truth_of b)
  value (Integer z) g fields w = ANumber z
  value (Bits ds) g fields w = APattern ds
  value (Name s) g fields w = name_value (field_named s fields) (state_of s g) w
  value (Not e) g fields w = ATruth (negation (as_truth (value e g fields w)))
  value (Binary op l r) g fields w = ATruth (binary op (value l g fields w) (value r g fields w) (elements r g fields w))
  value (Call f es) g fields w = call f es (values es g fields w) g
  value (Set es) g fields w = ATruth Open
  value (Join es) g fields w = in_a_row (values es g fields w)
  value (Slice e high low) g fields w = sliced (value e g fields w) (value high g fields w) (value low g fields w)
  value Other g fields w = ATruth Open

  pub values : Exprs → Configuration → List Field → ℕ → List Value
  values no_exprs g fields w = []
  values (expr e es) g fields w = value e g fields w ∷ values es g fields w

  -- the values of the elements of a Set as it is written
  pub elements : Expr → Configuration → List Field → ℕ → Option (List Value)
  elements (Set es) g fields w = Some (values es g fields w)
  elements e g fields w = None

-- the truth of a condition: Yes where there is none
abbrev pub truth : Option Expr → Configuration → List Field → ℕ → Truth
truth (Some e) g fields w = as_truth (value e g fields w)
truth None g fields w = Yes
