-- When two expressions state one fact, whatever names are: they are equal part by part, and no Other stands in them. Two
-- objects that are Other need not mean the same.
use Rattle.std.specs.Prelude.{Bool, true, false, not, ◌&&◌, List, [], ◌∷◌, bytes_eq}
use Rattle.std.specs.Ordering.{int_eq}
use Rattle.spec_bits.specs.Pattern.{Digit, Zero, One, Either}
use Rattle.spec_expressions.specs.Expression.{Op, op_text, FunctionOf, UInt, IsZero, IsOnes, IsFeatureImplemented, Named, ExprOf, Boolean, Integer, Bits, Name, Not, Binary, Call, Set, Join, Slice, Other, ExprsOf, no_exprs, expr}

abbrev pub same_truth : Bool → Bool → Bool
same_truth true b = b
same_truth false b = not b

abbrev pub same_digit : Digit → Digit → Bool
same_digit Zero Zero = true
same_digit One One = true
same_digit Either Either = true
same_digit d e = false

abbrev pub same_digits : List Digit → List Digit → Bool
same_digits [] [] = true
same_digits (d ∷ ds) (e ∷ es) = same_digit d e && same_digits ds es
same_digits ds es = false

-- operators are told apart by their texts
abbrev pub same_op : Op → Op → Bool
same_op op other = bytes_eq (op_text op) (op_text other)

abbrev pub same_function : {N : Type 0} → (N → N → Bool) → FunctionOf N → FunctionOf N → Bool
same_function same UInt UInt = true
same_function same IsZero IsZero = true
same_function same IsOnes IsOnes = true
same_function same IsFeatureImplemented IsFeatureImplemented = true
same_function same (Named m) (Named n) = same m n
same_function same f g = false

abbrev mutual
  pub same_fact : {N : Type 0} → (N → N → Bool) → ExprOf N → ExprOf N → Bool
  same_fact same (Boolean a) (Boolean b) = same_truth a b
  same_fact same (Integer a) (Integer b) = int_eq a b
  same_fact same (Bits ds) (Bits es) = same_digits ds es
  same_fact same (Name m) (Name n) = same m n
  same_fact same (Not e) (Not f) = same_fact same e f
  same_fact same (Binary op l r) (Binary op' l' r') = same_op op op' && (same_fact same l l' && same_fact same r r')
  same_fact same (Call f es) (Call g fs) = same_function same f g && same_facts same es fs
  same_fact same (Set es) (Set fs) = same_facts same es fs
  same_fact same (Join es) (Join fs) = same_facts same es fs
  same_fact same (Slice e high low) (Slice e' high' low') = same_fact same e e' && (same_fact same high high' && same_fact same low low')
  same_fact same e f = false

  pub same_facts : {N : Type 0} → (N → N → Bool) → ExprsOf N → ExprsOf N → Bool
  same_facts same no_exprs no_exprs = true
  same_facts same (expr e es) (expr f fs) = same_fact same e f && same_facts same es fs
  same_facts same es fs = false

-- no Other stands in an expression
abbrev mutual
  pub no_other : {N : Type 0} → ExprOf N → Bool
  no_other (Not e) = no_other e
  no_other (Binary op l r) = no_other l && no_other r
  no_other (Call f es) = no_others es
  no_other (Set es) = no_others es
  no_other (Join es) = no_others es
  no_other (Slice e high low) = no_other e && (no_other high && no_other low)
  no_other Other = false
  no_other e = true

  pub no_others : {N : Type 0} → ExprsOf N → Bool
  no_others no_exprs = true
  no_others (expr e es) = no_other e && no_others es
