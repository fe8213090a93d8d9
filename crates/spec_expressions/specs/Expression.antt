-- Expressions, of which conditions, preferences and constraints are made, as nested trees.
use Rattle.std.specs.Prelude.{ℕ, ℤ, List, [], ◌∷◌, Bool, Option, codes, bytes_eq, find, unwrap_or, ⊤}
use Rattle.spec_bits.specs.Pattern.{Digit}

-- ---- operators of two sides

pub data Op : Type 0 where
  And : Op
  Or : Op
  Implies : Op
  Iff : Op
  Eq : Op
  Ne : Op
  Lt : Op
  Le : Op
  Gt : Op
  Ge : Op
  Member : Op

abbrev pub op_text : Op → List ℕ
op_text And = codes "&&"
op_text Or = codes "||"
op_text Implies = codes "-->"
op_text Iff = codes "<->"
op_text Eq = codes "=="
op_text Ne = codes "!="
op_text Lt = codes "<"
op_text Le = codes "<="
op_text Gt = codes ">"
op_text Ge = codes ">="
op_text Member = codes "IN"

abbrev pub op_named : List ℕ → Option Op
op_named s = find (λ op. bytes_eq (op_text op) s) (And ∷ Or ∷ Implies ∷ Iff ∷ Eq ∷ Ne ∷ Lt ∷ Le ∷ Gt ∷ Ge ∷ Member ∷ [])

-- ---- functions

-- those with a meaning of their own, and any other, of which the name alone is known
pub data FunctionOf (N : Type 0) : Type 0 where
  UInt : FunctionOf N
  IsZero : FunctionOf N
  IsOnes : FunctionOf N
  IsFeatureImplemented : FunctionOf N
  Named : N → FunctionOf N

abbrev pub Function : Type 0
Function = FunctionOf (List ℕ)

abbrev pub function_text : Function → List ℕ
function_text UInt = codes "UInt"
function_text IsZero = codes "IsZero"
function_text IsOnes = codes "IsOnes"
function_text IsFeatureImplemented = codes "IsFeatureImplemented"
function_text (Named s) = s

abbrev pub function_named : List ℕ → Function
function_named s = unwrap_or (find (λ f. bytes_eq (function_text f) s) (UInt ∷ IsZero ∷ IsOnes ∷ IsFeatureImplemented ∷ [])) (Named s)

-- ---- expressions

mutual
  -- over names of some type: in a document a name is its text
  pub data ExprOf (N : Type 0) : Type 0 where
    Boolean : Bool → ExprOf N
    Integer : ℤ → ExprOf N
    -- digits, the first of which stands for the highest bit
    Bits : List Digit → ExprOf N
    -- a field or a parameter
    Name : N → ExprOf N
    Not : ExprOf N → ExprOf N
    -- the left side and the right one
    Binary : Op → ExprOf N → ExprOf N → ExprOf N
    Call : FunctionOf N → ExprsOf N → ExprOf N
    Set : ExprsOf N → ExprOf N
    -- bits joined, those of the first part being the highest
    Join : ExprsOf N → ExprOf N
    -- of some bits those from a high one down to a low one
    Slice : ExprOf N → ExprOf N → ExprOf N → ExprOf N
    -- an object that is none of these. Two of them need not mean the same: equality of expressions is not equality of atoms
    Other : ExprOf N

  pub data ExprsOf (N : Type 0) : Type 0 where
    no_exprs : ExprsOf N
    expr : ExprOf N → ExprsOf N → ExprsOf N

abbrev pub Expr : Type 0
Expr = ExprOf (List ℕ)

abbrev pub Exprs : Type 0
Exprs = ExprsOf (List ℕ)

abbrev pub exprs_of : {N : Type 0} → List (ExprOf N) → ExprsOf N
exprs_of [] = no_exprs
exprs_of (e ∷ es) = expr e (exprs_of es)

-- ---- names

abbrev pub function_with_names : {M N : Type 0} → (M → N) → FunctionOf M → FunctionOf N
function_with_names f UInt = UInt
function_with_names f IsZero = IsZero
function_with_names f IsOnes = IsOnes
function_with_names f IsFeatureImplemented = IsFeatureImplemented
function_with_names f (Named name) = Named (f name)

abbrev mutual
  -- the same expression with `f name` in the place of each name
  pub with_names : {M N : Type 0} → (M → N) → ExprOf M → ExprOf N
  with_names f (Boolean b) = Boolean b
  with_names f (Integer n) = Integer n
  with_names f (Bits ds) = Bits ds
  with_names f (Name name) = Name (f name)
  with_names f (Not a) = Not (with_names f a)
  with_names f (Binary op a b) = Binary op (with_names f a) (with_names f b)
  with_names f (Call function args) = Call (function_with_names f function) (all_with_names f args)
  with_names f (Set members) = Set (all_with_names f members)
  with_names f (Join parts) = Join (all_with_names f parts)
  with_names f (Slice bits high low) = Slice (with_names f bits) (with_names f high) (with_names f low)
  with_names f Other = Other

  pub all_with_names : {M N : Type 0} → (M → N) → ExprsOf M → ExprsOf N
  all_with_names f no_exprs = no_exprs
  all_with_names f (expr e es) = expr (with_names f e) (all_with_names f es)

-- each name in an expression satisfies P
abbrev pub FunctionHasNames : {N : Type 0} → (N → Type 0) → FunctionOf N → Type 0
FunctionHasNames P UInt = ⊤
FunctionHasNames P IsZero = ⊤
FunctionHasNames P IsOnes = ⊤
FunctionHasNames P IsFeatureImplemented = ⊤
FunctionHasNames P (Named name) = P name

abbrev mutual
  pub EachName : {N : Type 0} → (N → Type 0) → ExprOf N → Type 0
  EachName P (Boolean b) = ⊤
  EachName P (Integer n) = ⊤
  EachName P (Bits ds) = ⊤
  EachName P (Name name) = P name
  EachName P (Not a) = EachName P a
  EachName P (Binary op a b) = EachName P a × EachName P b
  EachName P (Call function args) = FunctionHasNames P function × EachNameOfAll P args
  EachName P (Set members) = EachNameOfAll P members
  EachName P (Join parts) = EachNameOfAll P parts
  EachName P (Slice bits high low) = EachName P bits × (EachName P high × EachName P low)
  EachName P Other = ⊤

  pub EachNameOfAll : {N : Type 0} → (N → Type 0) → ExprsOf N → Type 0
  EachNameOfAll P no_exprs = ⊤
  EachNameOfAll P (expr e es) = EachName P e × EachNameOfAll P es
