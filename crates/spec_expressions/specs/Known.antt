-- What is known of a value stays, when more becomes known.
use Rattle.std.specs.Prelude.{◌≡◌, ◌⊎◌, ℕ, List, Some, ⊤}
use Rattle.spec_expressions.specs.Expression.{Expr, Not, Binary, Call, Set, Join, Slice, Other, Exprs, no_exprs, expr}
use Rattle.spec_expressions.specs.Truth.{Open}
use Rattle.spec_expressions.specs.Scope.{Field, State, Configuration, state_of}
use Rattle.spec_expressions.specs.Operations.{Value, ATruth}
use Rattle.spec_expressions.specs.Value.{value}

-- a value was Open, or it is the same
abbrev pub Stays : Value → Value → Type 0
Stays before after = (before ≡ ATruth Open) ⊎ (after ≡ before)

-- ---- more parameters

-- a configuration has the state of each parameter of another one, and perhaps more parameters
abbrev pub Extends : Configuration → Configuration → Type 0
Extends h g = (s : List ℕ) (state : State) → state_of s g ≡ Some state → state_of s h ≡ Some state

-- a value that is not Open stays as it is, whatever becomes known of further parameters
abbrev pub KnownStays : Type 0
KnownStays = (e : Expr) (g h : Configuration) (fields : List Field) (w : ℕ) → Extends h g → Stays (value e g fields w) (value e h fields w)

-- ---- something in place of Other

abbrev mutual
  -- the second is the first with some expression in the place of each Other
  pub FilledBy : Expr → Expr → Type 0
  FilledBy Other f = ⊤
  FilledBy (Not e) (Not f) = FilledBy e f
  FilledBy (Binary op e f) (Binary op' e' f') = (op ≡ op') × FilledBy e e' × FilledBy f f'
  FilledBy (Call name es) (Call name' fs) = (name ≡ name') × AllFilledBy es fs
  FilledBy (Set es) (Set fs) = AllFilledBy es fs
  FilledBy (Join es) (Join fs) = AllFilledBy es fs
  FilledBy (Slice e high low) (Slice e' high' low') = FilledBy e e' × FilledBy high high' × FilledBy low low'
  FilledBy e f = e ≡ f

  pub AllFilledBy : Exprs → Exprs → Type 0
  AllFilledBy no_exprs no_exprs = ⊤
  AllFilledBy no_exprs (expr f fs) = ⊥
  AllFilledBy (expr e es) no_exprs = ⊥
  AllFilledBy (expr e es) (expr f fs) = FilledBy e f × AllFilledBy es fs

-- a value that is not Open rests on no Other: it stays as it is, whatever those objects may mean
abbrev pub RestsOnNoOther : Type 0
RestsOnNoOther = (e f : Expr) (g : Configuration) (fields : List Field) (w : ℕ) → FilledBy e f → Stays (value e g fields w) (value f g fields w)
