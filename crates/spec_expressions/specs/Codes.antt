-- Expressions as lists of tokens that give them back, by which a struct of code may stand for expressions.
use Rattle.std.specs.Prelude.{◌≡◌, refl, ℕ, ℤ, Bool, List, [], ◌∷◌, ◌++◌, slice_index_or}
use Rattle.std.proofs.Common.{◌∙◌, ap, inl, inr, ◌⊎◌}
use Rattle.std.specs.Coded.{Coded, code_by, coded_ℕ, coded_ℤ, coded_bool, coded_list, coded⊎}
use Rattle.spec_bits.specs.Pattern.{Digit, Zero, One, Either}
use Rattle.spec_expressions.specs.Expression.{Op, And, Or, Implies, Iff, Eq, Ne, Lt, Le, Gt, Ge, Member, FunctionOf, UInt, IsZero, IsOnes, IsFeatureImplemented, Named, ExprOf, Boolean, Integer, Bits, Name, Not, Binary, Call, Set, Join, Slice, Other, ExprsOf, no_exprs, expr}

-- ---- what stands alone, as a number

abbrev digit_number : Digit → ℕ
digit_number Zero = 0
digit_number One = 1
digit_number Either = 2

abbrev digit_of : ℕ → Digit
digit_of n = slice_index_or (Zero ∷ One ∷ Either ∷ []) n Zero

pub digit_back : (d : Digit) → digit_of (digit_number d) ≡ d
digit_back Zero = refl
digit_back One = refl
digit_back Either = refl

abbrev pub digit_code : Coded Digit
digit_code = code_by ℕ coded_ℕ digit_number digit_of digit_back

abbrev op_number : Op → ℕ
op_number And = 0
op_number Or = 1
op_number Implies = 2
op_number Iff = 3
op_number Eq = 4
op_number Ne = 5
op_number Lt = 6
op_number Le = 7
op_number Gt = 8
op_number Ge = 9
op_number Member = 10

abbrev op_of : ℕ → Op
op_of n = slice_index_or (And ∷ Or ∷ Implies ∷ Iff ∷ Eq ∷ Ne ∷ Lt ∷ Le ∷ Gt ∷ Ge ∷ Member ∷ []) n And

pub op_back : (op : Op) → op_of (op_number op) ≡ op
op_back And = refl
op_back Or = refl
op_back Implies = refl
op_back Iff = refl
op_back Eq = refl
op_back Ne = refl
op_back Lt = refl
op_back Le = refl
op_back Gt = refl
op_back Ge = refl
op_back Member = refl

abbrev pub op_code : Coded Op
op_code = code_by ℕ coded_ℕ op_number op_of op_back

module _ {N : Type 0} where
  abbrev function_parts : FunctionOf N → ℕ ⊎ N
  function_parts UInt = inl 0
  function_parts IsZero = inl 1
  function_parts IsOnes = inl 2
  function_parts IsFeatureImplemented = inl 3
  function_parts (Named name) = inr name

  abbrev function_of : ℕ ⊎ N → FunctionOf N
  function_of (inl n) = slice_index_or (UInt ∷ IsZero ∷ IsOnes ∷ IsFeatureImplemented ∷ []) n UInt
  function_of (inr name) = Named name

  pub function_back : (f : FunctionOf N) → function_of (function_parts f) ≡ f
  function_back UInt = refl
  function_back IsZero = refl
  function_back IsOnes = refl
  function_back IsFeatureImplemented = refl
  function_back (Named name) = refl

  abbrev pub function_code : Coded N → Coded (FunctionOf N)
  function_code names = code_by (ℕ ⊎ N) (coded⊎ coded_ℕ names) function_parts function_of function_back

-- ---- expressions

-- what makes an expression of those before it: a Boolean, an integer, bits, a name, a function, an operator, or one of the others by its number
abbrev Token : Type 0 → Type 0
Token N = Bool ⊎ (ℤ ⊎ (List Digit ⊎ (N ⊎ (FunctionOf N ⊎ (Op ⊎ ℕ)))))

abbrev token_code : {N : Type 0} → Coded N → Coded (Token N)
token_code names = coded⊎ coded_bool (coded⊎ coded_ℤ (coded⊎ (coded_list digit_code) (coded⊎ names (coded⊎ (function_code names) (coded⊎ op_code coded_ℕ)))))

-- expressions and lists of them that wait to become parts, the last one first
abbrev Waiting : Type 0 → Type 0
Waiting N = List (ExprOf N) × List (ExprsOf N)

module _ {N : Type 0} where
  abbrev of_one : (ExprOf N → ExprOf N) → Waiting N → Waiting N
  of_one f ([], lists) = ([], lists)
  of_one f (e ∷ es, lists) = (f e ∷ es, lists)

  abbrev of_two : (ExprOf N → ExprOf N → ExprOf N) → Waiting N → Waiting N
  of_two f ([], lists) = ([], lists)
  of_two f (b ∷ [], lists) = (b ∷ [], lists)
  of_two f (b ∷ a ∷ es, lists) = (f a b ∷ es, lists)

  abbrev of_three : (ExprOf N → ExprOf N → ExprOf N → ExprOf N) → Waiting N → Waiting N
  of_three f ([], lists) = ([], lists)
  of_three f (c ∷ [], lists) = (c ∷ [], lists)
  of_three f (c ∷ b ∷ [], lists) = (c ∷ b ∷ [], lists)
  of_three f (c ∷ b ∷ a ∷ es, lists) = (f a b c ∷ es, lists)

  abbrev of_list : (ExprsOf N → ExprOf N) → Waiting N → Waiting N
  of_list f (es, []) = (es, [])
  of_list f (es, list ∷ lists) = (f list ∷ es, lists)

  abbrev longer : Waiting N → Waiting N
  longer ([], lists) = ([], lists)
  longer (e ∷ es, []) = (e ∷ es, [])
  longer (e ∷ es, list ∷ lists) = (es, expr e list ∷ lists)

  abbrev no_list : Waiting N → Waiting N
  no_list w = (w.0, no_exprs ∷ w.1)

  abbrev other_step : ℕ → Waiting N → Waiting N
  other_step n = slice_index_or (no_list ∷ longer ∷ of_one Not ∷ of_list Set ∷ of_list Join ∷ of_three Slice ∷ []) n (λ w. (Other ∷ w.0, w.1))

  abbrev step : Token N → Waiting N → Waiting N
  step (inl b) w = (Boolean b ∷ w.0, w.1)
  step (inr (inl n)) w = (Integer n ∷ w.0, w.1)
  step (inr (inr (inl ds))) w = (Bits ds ∷ w.0, w.1)
  step (inr (inr (inr (inl name)))) w = (Name name ∷ w.0, w.1)
  step (inr (inr (inr (inr (inl f))))) w = of_list (Call f) w
  step (inr (inr (inr (inr (inr (inl op)))))) w = of_two (Binary op) w
  step (inr (inr (inr (inr (inr (inr n)))))) w = other_step n w

  abbrev steps : List (Token N) → Waiting N → Waiting N
  steps [] w = w
  steps (t ∷ ts) w = steps ts (step t w)

  abbrev other_token : ℕ → List (Token N)
  other_token n = inr (inr (inr (inr (inr (inr n))))) ∷ []

  abbrev mutual
    -- the tokens of the parts, and then the expression's own
    tokens : ExprOf N → List (Token N)
    tokens (Boolean b) = inl b ∷ []
    tokens (Integer n) = inr (inl n) ∷ []
    tokens (Bits ds) = inr (inr (inl ds)) ∷ []
    tokens (Name name) = inr (inr (inr (inl name))) ∷ []
    tokens (Not a) = tokens a ++ other_token 2
    tokens (Binary op a b) = tokens a ++ (tokens b ++ inr (inr (inr (inr (inr (inl op))))) ∷ [])
    tokens (Call f list) = list_tokens list ++ inr (inr (inr (inr (inl f)))) ∷ []
    tokens (Set list) = list_tokens list ++ other_token 3
    tokens (Join list) = list_tokens list ++ other_token 4
    tokens (Slice a b c) = tokens a ++ (tokens b ++ (tokens c ++ other_token 5))
    tokens Other = other_token 6

    list_tokens : ExprsOf N → List (Token N)
    list_tokens no_exprs = other_token 0
    list_tokens (expr e list) = list_tokens list ++ (tokens e ++ other_token 1)

  steps_append : (ts us : List (Token N)) (w : Waiting N) → steps (ts ++ us) w ≡ steps us (steps ts w)
  steps_append [] us w = refl
  steps_append (t ∷ ts) us w = steps_append ts us (step t w)

  mutual
    -- the tokens of an expression put it before those that wait
    steps_tokens : (e : ExprOf N) (es : List (ExprOf N)) (lists : List (ExprsOf N)) → steps (tokens e) (es, lists) ≡ (e ∷ es, lists)
    steps_tokens (Boolean b) es lists = refl
    steps_tokens (Integer n) es lists = refl
    steps_tokens (Bits ds) es lists = refl
    steps_tokens (Name name) es lists = refl
    steps_tokens (Not a) es lists = steps_append (tokens a) (other_token 2) (es, lists) ∙ ap (steps (other_token 2)) (steps_tokens a es lists)
    steps_tokens (Binary op a b) es lists =
        let last = inr (inr (inr (inr (inr (inl op))))) ∷ [] in
        steps_append (tokens a) (tokens b ++ last) (es, lists)
        ∙ ap (steps (tokens b ++ last)) (steps_tokens a es lists)
        ∙ steps_append (tokens b) last (a ∷ es, lists)
        ∙ ap (steps last) (steps_tokens b (a ∷ es) lists)
    steps_tokens (Call f list) es lists =
        let last = inr (inr (inr (inr (inl f)))) ∷ [] in
        steps_append (list_tokens list) last (es, lists) ∙ ap (steps last) (steps_list list es lists)
    steps_tokens (Set list) es lists = steps_append (list_tokens list) (other_token 3) (es, lists) ∙ ap (steps (other_token 3)) (steps_list list es lists)
    steps_tokens (Join list) es lists = steps_append (list_tokens list) (other_token 4) (es, lists) ∙ ap (steps (other_token 4)) (steps_list list es lists)
    steps_tokens (Slice a b c) es lists =
        steps_append (tokens a) (tokens b ++ (tokens c ++ other_token 5)) (es, lists)
        ∙ ap (steps (tokens b ++ (tokens c ++ other_token 5))) (steps_tokens a es lists)
        ∙ steps_append (tokens b) (tokens c ++ other_token 5) (a ∷ es, lists)
        ∙ ap (steps (tokens c ++ other_token 5)) (steps_tokens b (a ∷ es) lists)
        ∙ steps_append (tokens c) (other_token 5) (b ∷ a ∷ es, lists)
        ∙ ap (steps (other_token 5)) (steps_tokens c (b ∷ a ∷ es) lists)
    steps_tokens Other es lists = refl

    steps_list : (list : ExprsOf N) (es : List (ExprOf N)) (lists : List (ExprsOf N)) → steps (list_tokens list) (es, lists) ≡ (es, list ∷ lists)
    steps_list no_exprs es lists = refl
    steps_list (expr e list) es lists =
        steps_append (list_tokens list) (tokens e ++ other_token 1) (es, lists)
        ∙ ap (steps (tokens e ++ other_token 1)) (steps_list list es lists)
        ∙ steps_append (tokens e) (other_token 1) (es, list ∷ lists)
        ∙ ap (steps (other_token 1)) (steps_tokens e es (list ∷ lists))

  abbrev first_of : Waiting N → ExprOf N
  first_of ([], lists) = Other
  first_of (e ∷ es, lists) = e

  abbrev read_back : List (Token N) → ExprOf N
  read_back ts = first_of (steps ts ([], []))

  pub read_back-tokens : (e : ExprOf N) → read_back (tokens e) ≡ e
  read_back-tokens e = ap first_of (steps_tokens e [] [])

  -- an expression is stored as its tokens
  abbrev pub expr_code : Coded N → Coded (ExprOf N)
  expr_code names = code_by (List (Token N)) (coded_list (token_code names)) tokens read_back read_back-tokens
