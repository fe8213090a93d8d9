-- The kinds of objects that are expressions, by the text of their `_type`. The kinds and their texts are this project's own,
-- written after AARCHMRS, Arm's machine-readable architecture.
use Rattle.std.specs.Prelude.{ℕ, List, [], ◌∷◌, Option, codes, bytes_eq, find}

pub data ExprKind : Type 0 where
  OfBool : ExprKind
  OfInteger : ExprKind
  OfBits : ExprKind
  OfIdentifier : ExprKind
  OfUnary : ExprKind
  OfBinary : ExprKind
  OfFunction : ExprKind
  OfSet : ExprKind
  OfConcat : ExprKind
  OfSquare : ExprKind

-- the text of `_type`
abbrev pub type_text : ExprKind → List ℕ
type_text OfBool = codes "AST.Bool"
type_text OfInteger = codes "AST.Integer"
type_text OfBits = codes "Values.Value"
type_text OfIdentifier = codes "AST.Identifier"
type_text OfUnary = codes "AST.UnaryOp"
type_text OfBinary = codes "AST.BinaryOp"
type_text OfFunction = codes "AST.Function"
type_text OfSet = codes "AST.Set"
type_text OfConcat = codes "AST.Concat"
type_text OfSquare = codes "AST.SquareOp"

abbrev pub kind_named : List ℕ → Option ExprKind
kind_named s = find (λ k. bytes_eq (type_text k) s) (OfBool ∷ OfInteger ∷ OfBits ∷ OfIdentifier ∷ OfUnary ∷ OfBinary ∷ OfFunction ∷ OfSet ∷ OfConcat ∷ OfSquare ∷ [])
