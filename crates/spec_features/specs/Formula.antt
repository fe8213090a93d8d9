-- Formulas over variables, in logic of two values.
use Rattle.std.specs.Prelude.{ℕ, ◌+◌, ◌<◌, ◌≤◌, Bool, not, ◌&&◌, ◌||◌, Option, Some, None, ⊤}
use Rattle.spec_expressions.specs.Expression.{Op, And, Or, Implies, Iff}
use Rattle.spec_features.specs.Fact.{same_truth}

pub data Connective : Type 0 where
  Conjunction : Connective
  Disjunction : Connective
  Implication : Connective
  Equivalence : Connective

-- the connective that an operator of expressions is, if it is one
abbrev pub connective : Op → Option Connective
connective And = Some Conjunction
connective Or = Some Disjunction
connective Implies = Some Implication
connective Iff = Some Equivalence
connective op = None

-- variables are numbered from 1
pub data Formula : Type 0 where
  Constant : Bool → Formula
  Variable : ℕ → Formula
  Negation : Formula → Formula
  Joined : Connective → Formula → Formula → Formula

abbrev pub joins : Connective → Bool → Bool → Bool
joins Conjunction a b = a && b
joins Disjunction a b = a || b
joins Implication a b = not a || b
joins Equivalence a b = same_truth a b

-- whether a formula holds, under an assignment of its variables
abbrev pub holds : (ℕ → Bool) → Formula → Bool
holds v (Constant b) = b
holds v (Variable n) = v n
holds v (Negation f) = not (holds v f)
holds v (Joined c f g) = joins c (holds v f) (holds v g)

-- the variables of a formula are from 1 to a number
abbrev pub Uses : ℕ → Formula → Type 0
Uses n (Constant b) = ⊤
Uses n (Variable k) = (0 < k) × (k ≤ n)
Uses n (Negation f) = Uses n f
Uses n (Joined c f g) = Uses n f × Uses n g

-- how many parts a formula has, itself included
abbrev pub size : Formula → ℕ
size (Constant b) = 1
size (Variable n) = 1
size (Negation f) = size f + 1
size (Joined c f g) = size f + size g + 1
