-- Laws of expressions with the texts of their names: made of their parts with the texts of theirs.
use Rattle.std.proofs.Common.{◌≡◌, ◌∙◌, ap, ap₂, refl, ℕ, zero, suc, ◌<◌, List, [], ◌∷◌, ◌++◌, length, map}
use Rattle.std.proofs.lemmas.List.Elements.{All-head, All-tail, All-push}
use Rattle.spec_expressions.specs.Expression as expression
use Rattle.spec_expressions.specs.Expression.{ExprOf, ExprsOf, exprs_of, function_with_names, with_names, all_with_names, FunctionHasNames, EachName, EachNameOfAll}
use Rattle.mrs_arena.specs.declared.func.Func.{Func}
use Rattle.mrs_arena.specs.declared.func.Func.TheVariants.{UInt, IsZero, IsOnes, IsFeatureImplemented, Named}
use Rattle.mrs_arena.specs.declared.expr_id.ExprId.{ExprId}
use Rattle.mrs_arena.specs.declared.expr.Expr.{Expr}
use Rattle.mrs_arena.specs.declared.expr.Expr.TheVariants.{Truth, Integer, Bits, Name, Not, Binary, Call, Set, Join, Slice, Other}
use Rattle.mrs_arena.specs.declared.expr_ref.ExprRef.{ExprRef}
use Rattle.mrs_arena.specs.declared.expr_ref.ExprRef.TheVariants as ref
use Rattle.mrs_arena.specs.Expressions.{expr_at, op_of, function_by, itself, listed, list_of, layer, layer_by, made, made_by, FunctionHasName, HasName}
use Rattle.mrs_arena.specs.Placed.{text_of, expr_of, AreHeldExprs}

-- the expression of a number, with its texts
pub expr_of-at : (names : List (List ℕ)) (exprs : List (ExprOf ℕ)) (k : ℕ) → expr_of names (expr_at exprs k) ≡ expr_at (map (expr_of names) exprs) k
expr_of-at names [] k = refl
expr_of-at names (e ∷ exprs) zero = refl
expr_of-at names (e ∷ exprs) (suc k) = expr_of-at names exprs k

function_of-text : (names : List (List ℕ)) (f : Func) → function_with_names (text_of names) (function_by itself f) ≡ function_by (text_of names) f
function_of-text names UInt = refl
function_of-text names IsZero = refl
function_of-text names IsOnes = refl
function_of-text names IsFeatureImplemented = refl
function_of-text names (Named name) = refl

-- expressions that stand for others once they have their texts
module _ (names : List (List ℕ)) (at : ℕ → ExprOf ℕ) (other : ℕ → ExprOf (List ℕ)) (same : (k : ℕ) → expr_of names (at k) ≡ other k) where
  list_of-numbers : (ks : List ℕ) → all_with_names (text_of names) (exprs_of (map at ks)) ≡ exprs_of (map other ks)
  list_of-numbers [] = refl
  list_of-numbers (k ∷ ks) = ap₂ expression.expr (same k) (list_of-numbers ks)

  list_of-ids : (ids : List ExprId) → all_with_names (text_of names) (list_of at ids) ≡ list_of other ids
  list_of-ids [] = refl
  list_of-ids (id ∷ ids) = ap₂ expression.expr (same id.0) (list_of-ids ids)

  slice-text : (a b c : ℕ) → expression.Slice (expr_of names (at a)) (expr_of names (at b)) (expr_of names (at c)) ≡ expression.Slice (other a) (other b) (other c)
  slice-text a b c = ap₂ (λ e es. expression.Slice e es (expr_of names (at c))) (same a) (same b) ∙ ap (expression.Slice (other a) (other b)) (same c)

  pub made-text : (parts : List ℕ) (e : Expr) → expr_of names (made at parts e) ≡ made_by (text_of names) other parts e
  made-text parts (Truth b) = refl
  made-text parts (Integer n) = refl
  made-text parts (Bits p) = refl
  made-text parts (Name name) = refl
  made-text parts (Not a) = ap expression.Not (same a.0)
  made-text parts (Binary op a b) = ap₂ (expression.Binary (op_of op)) (same a.0) (same b.0)
  made-text parts (Call f args) = ap₂ expression.Call (function_of-text names f) (list_of-numbers (listed parts args))
  made-text parts (Set members) = ap expression.Set (list_of-numbers (listed parts members))
  made-text parts (Join joined) = ap expression.Join (list_of-numbers (listed parts joined))
  made-text parts (Slice bits high low) = slice-text bits.0 high.0 low.0
  made-text parts Other = refl

  pub layer-text : (e : ExprRef) → expr_of names (layer at e) ≡ layer_by (text_of names) other e
  layer-text (ref.Truth b) = refl
  layer-text (ref.Integer n) = refl
  layer-text (ref.Bits p) = refl
  layer-text (ref.Name name) = refl
  layer-text (ref.Not a) = ap expression.Not (same a.0)
  layer-text (ref.Binary op a b) = ap₂ (expression.Binary (op_of op)) (same a.0) (same b.0)
  layer-text (ref.Call f args) = ap₂ expression.Call (function_of-text names f) (list_of-ids args.now)
  layer-text (ref.Set members) = ap expression.Set (list_of-ids members.now)
  layer-text (ref.Join joined) = ap expression.Join (list_of-ids joined.now)
  layer-text (ref.Slice bits high low) = slice-text bits.0 high.0 low.0
  layer-text ref.Other = refl

-- ---- names that are held

abbrev Held : List (List ℕ) → ExprOf ℕ → Type 0
Held names e = EachName (λ id. id < length names) e

pub held-at : (names : List (List ℕ)) (exprs : List (ExprOf ℕ)) (k : ℕ) → AreHeldExprs names exprs → Held names (expr_at exprs k)
held-at names [] k held = tt
held-at names (e ∷ exprs) zero held = All-head (Held names) e exprs held
held-at names (e ∷ exprs) (suc k) held = held-at names exprs k (All-tail (Held names) e exprs held)

held-list : (names : List (List ℕ)) (exprs : List (ExprOf ℕ)) (ks : List ℕ) → AreHeldExprs names exprs → EachNameOfAll (λ id. id < length names) (exprs_of (map (expr_at exprs) ks))
held-list names exprs [] held = tt
held-list names exprs (k ∷ ks) held = (held-at names exprs k held, held-list names exprs ks held)

held-function : (names : List (List ℕ)) (f : Func) → FunctionHasName (length names) f → FunctionHasNames (λ id. id < length names) (function_by itself f)
held-function names UInt has = tt
held-function names IsZero has = tt
held-function names IsOnes has = tt
held-function names IsFeatureImplemented has = tt
held-function names (Named name) has = has

-- the names of an expression are held where its own are and those of its parts
held-made : (names : List (List ℕ)) (exprs : List (ExprOf ℕ)) (parts : List ℕ) (e : Expr) → HasName (length names) e → AreHeldExprs names exprs → Held names (made (expr_at exprs) parts e)
held-made names exprs parts (Truth b) has held = tt
held-made names exprs parts (Integer n) has held = tt
held-made names exprs parts (Bits p) has held = tt
held-made names exprs parts (Name name) has held = has
held-made names exprs parts (Not a) has held = held-at names exprs a.0 held
held-made names exprs parts (Binary op a b) has held = (held-at names exprs a.0 held, held-at names exprs b.0 held)
held-made names exprs parts (Call f args) has held = (held-function names f has, held-list names exprs (listed parts args) held)
held-made names exprs parts (Set members) has held = held-list names exprs (listed parts members) held
held-made names exprs parts (Join joined) has held = held-list names exprs (listed parts joined) held
held-made names exprs parts (Slice bits high low) has held = (held-at names exprs bits.0 held, (held-at names exprs high.0 held, held-at names exprs low.0 held))
held-made names exprs parts Other has held = tt

pub AreHeldExprs-push : (names : List (List ℕ)) (exprs : List (ExprOf ℕ)) (parts : List ℕ) (e : Expr) → HasName (length names) e → AreHeldExprs names exprs → AreHeldExprs names (exprs ++ made (expr_at exprs) parts e ∷ [])
AreHeldExprs-push names exprs parts e has held = All-push (Held names) exprs (made (expr_at exprs) parts e) held (held-made names exprs parts e has held)
