-- Constraints as formulas. In a constraint And, Or, Implies, Iff, Not and a truth are connectives. The name of a boolean
-- parameter, and IsFeatureImplemented of that name, stand for the parameter. Any other expression under connectives is an
-- atom, of which no more is known than that it holds or does not. Variables are the boolean parameters in order, and behind
-- them the atoms in the order in which they first occur, left side first.
use Rattle.std.specs.Prelude.{ℕ, ◌+◌, Bool, map, List, [], ◌∷◌, ◌++◌, length, Option, Some, None, position, option_and_then}
use Rattle.spec_expressions.specs.Expression.{IsFeatureImplemented, ExprOf, Boolean, Name, Not, Binary, Call, no_exprs, expr}
use Rattle.spec_features.specs.Features.{FeaturesOf, booleans}
use Rattle.spec_features.specs.Fact.{same_fact}
use Rattle.spec_features.specs.Formula.{Connective, connective, Formula, Constant, Variable, Negation, Joined}

-- the names of the boolean parameters, how many atoms there are, and the constraints
pub record TheoryOf (N : Type 0) : Type 0 where
  pub names : List N
  pub atoms : ℕ
  pub constraints : List Formula

-- what is made of an expression behind others, with the atoms that were met up to its end
pub record Met (N A : Type 0) : Type 0 where
  pub made : A
  pub atoms : List (ExprOf N)

-- the name of the feature that an expression asks for
abbrev pub asked_name : {N : Type 0} → ExprOf N → Option N
asked_name (Name s) = Some s
asked_name (Call IsFeatureImplemented (expr (Name s) no_exprs)) = Some s
asked_name e = None

-- the boolean parameter, counted from 0, that an expression stands for
abbrev pub parameter : {N : Type 0} → (N → N → Bool) → List N → ExprOf N → Option ℕ
parameter same names e = option_and_then (λ s. position (same s) names) (asked_name e)

-- an atom is the one that was met before, or the next one
abbrev pub atom : {N : Type 0} → ℕ → ExprOf N → List (ExprOf N) → Option ℕ → Met N Formula
atom before e atoms (Some k) = record { made = Variable (before + k + 1); atoms = atoms }
atom before e atoms None = record { made = Variable (before + length atoms + 1); atoms = atoms ++ e ∷ [] }

abbrev pub parameter_or_atom : {N : Type 0} → (N → N → Bool) → List N → ExprOf N → List (ExprOf N) → Option ℕ → Met N Formula
parameter_or_atom same names e atoms (Some k) = record { made = Variable (k + 1); atoms = atoms }
parameter_or_atom same names e atoms None = atom (length names) e atoms (position (same_fact same e) atoms)

abbrev pub leaf : {N : Type 0} → (N → N → Bool) → List N → ExprOf N → List (ExprOf N) → Met N Formula
leaf same names e atoms = parameter_or_atom same names e atoms (parameter same names e)

abbrev pub negated : {N : Type 0} → Met N Formula → Met N Formula
negated f = record { made = Negation f.made; atoms = f.atoms }

-- both sides under a connective, the right one being met behind the left one; under another operator the whole is a leaf
abbrev pub both_sides : {N : Type 0} → Option Connective → Met N Formula → (List (ExprOf N) → Met N Formula) → Met N Formula → Met N Formula
both_sides (Some c) left right whole = let r = right left.atoms in record { made = Joined c left.made r.made; atoms = r.atoms }
both_sides None left right whole = whole

abbrev pub formula : {N : Type 0} → (N → N → Bool) → List N → ExprOf N → List (ExprOf N) → Met N Formula
formula same names (Boolean b) atoms = record { made = Constant b; atoms = atoms }
formula same names (Not e) atoms = negated (formula same names e atoms)
formula same names (Binary op l r) atoms =
    both_sides (connective op) (formula same names l atoms) (λ more. formula same names r more) (leaf same names (Binary op l r) atoms)
formula same names e atoms = leaf same names e atoms

abbrev pub formulas : {N : Type 0} → (N → N → Bool) → List N → List (ExprOf N) → List (ExprOf N) → Met N (List Formula)
formulas same names [] atoms = record { made = []; atoms = atoms }
formulas same names (e ∷ es) atoms =
    let first = formula same names e atoms in
    let rest = formulas same names es first.atoms in
    record { made = first.made ∷ rest.made; atoms = rest.atoms }

-- what features say of their boolean parameters and of atoms
abbrev pub theory : {N : Type 0} → (N → N → Bool) → FeaturesOf N → TheoryOf N
theory same f =
    let names = booleans f.params in
    let met = formulas same names f.constraints [] in
    record { names = names; atoms = length met.atoms; constraints = met.made }

-- how many variables a configuration gives a state
abbrev pub states : {N : Type 0} → TheoryOf N → ℕ
states t = length t.names + t.atoms

-- both sides and the connective, or one part that is no connective
abbrev pub parts_by : Option Connective → ℕ → ℕ → ℕ
parts_by (Some c) left right = left + right + 1
parts_by None left right = 1

-- how many connectives and parts under connectives an expression has
abbrev pub parts : {N : Type 0} → ExprOf N → ℕ
parts (Not e) = parts e + 1
parts (Binary op l r) = parts_by (connective op) (parts l) (parts r)
parts e = 1

-- a theory with other names in place of its own
abbrev pub theory_with_names : {M N : Type 0} → (M → N) → TheoryOf M → TheoryOf N
theory_with_names f t = record { names = map f t.names; atoms = t.atoms; constraints = t.constraints }
