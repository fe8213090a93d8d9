-- What keys stand for: expressions and lists of them.
use Rattle.std.specs.Prelude.{◌≡◌, ℕ, List, [], ◌∷◌, ◌++◌, Option, Some, slice_get, ◌⊎◌, ⊤}
use Rattle.std.proofs.Common.{inl, inr, refl}
use Rattle.std.specs.Coded.{Coded, code_by, coded_ℕ, coded⊎}
use Rattle.spec_expressions.specs.Expression.{ExprOf, Boolean, Integer, Bits, Name, Not, Binary, Call, Set, Join, Slice, Other, ExprsOf, no_exprs, expr}
use Rattle.spec_expressions.specs.Codes.{expr_code}
use Rattle.bit_pattern.specs.Digits.{digits_below}
use Rattle.bit_pattern.specs.declared.pattern.Pattern.{Pattern}
use Rattle.mrs_arena.specs.Expressions.{op_of, function_by, itself}
use Rattle.expr_classes.specs.declared.key.Key.{Key}
use Rattle.expr_classes.specs.declared.key.Key.TheVariants as key

-- an expression or a list of expressions, over numbers of names
abbrev pub Term : Type 0
Term = ExprOf ℕ ⊎ ExprsOf ℕ

abbrev pub expr_in : Option Term → ExprOf ℕ
expr_in (Some (inl e)) = e
expr_in o = Other

abbrev pub list_in : Option Term → ExprsOf ℕ
list_in (Some (inr es)) = es
list_in o = no_exprs

-- a key, where its parts stand for these terms
abbrev pub term_of : List Term → Key → Term
term_of terms (key.Truth b) = inl (Boolean b)
term_of terms (key.Integer z) = inl (Integer z)
term_of terms (key.Bits width mask value) = inl (Bits (digits_below mask value width))
term_of terms (key.Name name) = inl (Name name.0)
term_of terms (key.Not a) = inl (Not (expr_in (slice_get terms a)))
term_of terms (key.Binary op a b) = inl (Binary (op_of op) (expr_in (slice_get terms a)) (expr_in (slice_get terms b)))
term_of terms (key.Call f args) = inl (Call (function_by itself f) (list_in (slice_get terms args)))
term_of terms (key.Set members) = inl (Set (list_in (slice_get terms members)))
term_of terms (key.Join parts) = inl (Join (list_in (slice_get terms parts)))
term_of terms (key.Slice bits high low) = inl (Slice (expr_in (slice_get terms bits)) (expr_in (slice_get terms high)) (expr_in (slice_get terms low)))
term_of terms key.Empty = inr no_exprs
term_of terms (key.Chain first rest) = inr (expr (expr_in (slice_get terms first)) (list_in (slice_get terms rest)))

-- keys one behind the other, each over the terms of those before it
abbrev pub terms_behind : List Term → List Key → List Term
terms_behind terms [] = terms
terms_behind terms (k ∷ ks) = terms_behind (terms ++ term_of terms k ∷ []) ks

-- a number is that of an expression, or of a list
abbrev pub IsExpr : List Term → ℕ → Type 0
IsExpr terms p = (e : ExprOf ℕ) × (slice_get terms p ≡ Some (inl e))

abbrev pub IsExprs : List Term → ℕ → Type 0
IsExprs terms p = (es : ExprsOf ℕ) × (slice_get terms p ≡ Some (inr es))

-- the digits of a pattern, by its numbers
pub record IsPattern (width mask value : ℕ) : Type 0 where
  pub pattern : Pattern
  pub width_is : pattern.width ≡ width
  pub mask_is : pattern.mask ≡ mask
  pub value_is : pattern.value ≡ value

-- the parts of a key are numbers of terms, each of its sort
abbrev pub HasTerms : List Term → Key → Type 0
HasTerms terms (key.Truth b) = ⊤
HasTerms terms (key.Integer z) = ⊤
HasTerms terms (key.Bits width mask value) = IsPattern width mask value
HasTerms terms (key.Name name) = ⊤
HasTerms terms (key.Not a) = IsExpr terms a
HasTerms terms (key.Binary op a b) = IsExpr terms a × IsExpr terms b
HasTerms terms (key.Call f args) = IsExprs terms args
HasTerms terms (key.Set members) = IsExprs terms members
HasTerms terms (key.Join parts) = IsExprs terms parts
HasTerms terms (key.Slice bits high low) = IsExpr terms bits × (IsExpr terms high × IsExpr terms low)
HasTerms terms key.Empty = ⊤
HasTerms terms (key.Chain first rest) = IsExpr terms first × IsExprs terms rest

abbrev pub HaveTerms : List Term → List Key → Type 0
HaveTerms terms [] = ⊤
HaveTerms terms (k ∷ ks) = HasTerms terms k × HaveTerms (terms ++ term_of terms k ∷ []) ks

-- no term has two numbers
abbrev pub AreApart : List Term → Type 0
AreApart terms = (p q : ℕ) (x : Term) → slice_get terms p ≡ Some x → slice_get terms q ≡ Some x → p ≡ q

-- what holds of the keys of a table
pub record AreKeys (ks : List Key) : Type 0 where
  pub parts : HaveTerms [] ks
  pub apart : AreApart (terms_behind [] ks)

-- ---- terms are stored as expressions

abbrev members_of : ExprOf ℕ → ExprsOf ℕ
members_of (Set es) = es
members_of e = no_exprs

abbrev pub term_code : Coded Term
term_code = coded⊎ (expr_code coded_ℕ) (code_by (ExprOf ℕ) (expr_code coded_ℕ) (λ es. Set es) members_of (λ _. refl))
