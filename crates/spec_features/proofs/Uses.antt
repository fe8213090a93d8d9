-- The formulas of constraints speak of parameters and atoms alone.
use Rattle.std.proofs.Common.{◌≡◌, ℕ, ◌+◌, ◌<◌, ◌≤◌, Bool, List, [], ◌∷◌, length, Option, Some, None, refl, arith}
use Rattle.std.specs.Prelude.{position, option_and_then, sum_by}
use Rattle.std.specs.List.{AllByRecursion}
use Rattle.std.proofs.lemmas.List.{length-append}
use Rattle.std.proofs.lemmas.List.Quantifiers.{position-Some}
use Rattle.std.proofs.lemmas.List.Sums.{sum_by-cons}
use Rattle.spec_expressions.specs.Expression.{ExprOf, Boolean, Not, Binary}
use Rattle.spec_features.specs.Features.{FeaturesOf, booleans}
use Rattle.spec_features.specs.Fact.{same_fact}
use Rattle.spec_features.specs.Formula.{Connective, connective, Formula, Uses, size}
use Rattle.spec_features.specs.Theory.{Met, asked_name, parts, parts_by, parameter, atom, parameter_or_atom, leaf, both_sides, formula, formulas, theory, states}
use Rattle.spec_features.proofs.Encoding.{uses_wider}

-- what is met only grows, by at most as much as there are parts, of which the formula has as many; and it speaks of what was met
pub record IsMet {N : Type 0} (names : List N) (before : List (ExprOf N)) (count : ℕ) (m : Met N Formula) : Type 0 where
  pub grown : length before ≤ length m.atoms
  pub few : length m.atoms ≤ length before + count
  pub as_many : size m.made ≡ count
  pub within : Uses (length names + length m.atoms) m.made

parameter_below : {N : Type 0} (same : N → N → Bool) (names : List N) (e : ExprOf N) (k : ℕ) → parameter same names e ≡ Some k → k < length names
parameter_below same names e k is = go (asked_name e) is
  where
    go : (o : Option _) → option_and_then (λ s. position (same s) names) o ≡ Some k → k < length names
    go None h = absurd cc
    go (Some s) h = (position-Some (same s) names k s h).0

atom_met : {N : Type 0} (same : N → N → Bool) (names : List N) (e : ExprOf N) (atoms : List (ExprOf N)) (o : Option ℕ) → position (same_fact same e) atoms ≡ o
    → IsMet names atoms 1 (atom (length names) e atoms o)
atom_met same names e atoms (Some k) is =
    let low : k < length atoms = (position-Some (same_fact same e) atoms k e is).0 in
    record { grown = omega arith; few = omega arith; as_many = refl; within = (omega arith, omega (arith, low)) }
atom_met same names e atoms None is =
    let more = length-append atoms (e ∷ []) in
    record { grown = omega (arith, more); few = omega (arith, more); as_many = refl; within = (omega arith, omega (arith, more)) }

leaf_met : {N : Type 0} (same : N → N → Bool) (names : List N) (e : ExprOf N) (atoms : List (ExprOf N)) → IsMet names atoms 1 (leaf same names e atoms)
leaf_met same names e atoms = go (parameter same names e) refl
  where
    go : (o : Option ℕ) → parameter same names e ≡ o → IsMet names atoms 1 (parameter_or_atom same names e atoms o)
    go (Some k) is =
        let low : k < length names = parameter_below same names e k is in
        record { grown = omega arith; few = omega arith; as_many = refl; within = (omega arith, omega (arith, low)) }
    go None is = atom_met same names e atoms (position (same_fact same e) atoms) refl

sides_met : {N : Type 0} (names : List N) (atoms : List (ExprOf N)) (c : Option Connective) (left : Met N Formula) (right : List (ExprOf N) → Met N Formula) (whole : Met N Formula)
    → (m n : ℕ) → IsMet names atoms m left → IsMet names left.atoms n (right left.atoms) → IsMet names atoms 1 whole → IsMet names atoms (parts_by c m n) (both_sides c left right whole)
sides_met names atoms (Some c) left right whole m n l r w =
    let r' = right left.atoms in
    record {
      grown = omega (arith, l.grown, r.grown);
      few = omega (arith, l.few, r.few);
      as_many = omega (arith, l.as_many, r.as_many);
      within = (uses_wider (length names + length left.atoms) (length names + length r'.atoms) (omega (arith, r.grown)) left.made l.within, r.within);
    }
sides_met names atoms None left right whole m n l r w = w

pub formula_met : {N : Type 0} (same : N → N → Bool) (names : List N) (e : ExprOf N) (atoms : List (ExprOf N)) → IsMet names atoms (parts e) (formula same names e atoms)
formula_met same names (Boolean b) atoms = record { grown = omega arith; few = omega arith; as_many = refl; within = tt }
formula_met same names (Not e) atoms = let inner = formula_met same names e atoms in record { grown = inner.grown; few = omega (arith, inner.few); as_many = omega (arith, inner.as_many); within = inner.within }
formula_met same names (Binary op l r) atoms =
    sides_met names atoms (connective op) (formula same names l atoms) (λ more. formula same names r more) (leaf same names (Binary op l r) atoms)
    (parts l) (parts r) (formula_met same names l atoms) (formula_met same names r (formula same names l atoms).atoms) (leaf_met same names (Binary op l r) atoms)
formula_met same names e atoms = leaf_met same names e atoms

pub formulas_met : {N : Type 0} (same : N → N → Bool) (names : List N) (es : List (ExprOf N)) (atoms : List (ExprOf N))
    → (length atoms ≤ length (formulas same names es atoms).atoms)
    × AllByRecursion (Uses (length names + length (formulas same names es atoms).atoms)) (formulas same names es atoms).made
formulas_met same names [] atoms = (omega arith, tt)
formulas_met same names (e ∷ es) atoms =
    let first = formula same names e atoms in
    let here = formula_met same names e atoms in
    let rest = formulas_met same names es first.atoms in
    let n : ℕ = length names + length (formulas same names es first.atoms).atoms in
    (omega (arith, here.grown, rest.0), (uses_wider (length names + length first.atoms) n (omega (arith, rest.0)) first.made here.within, rest.1))

-- there are as many parts of formulas as of constraints, and no more atoms
pub formulas_few : {N : Type 0} (same : N → N → Bool) (names : List N) (es : List (ExprOf N)) (atoms : List (ExprOf N))
    → (length (formulas same names es atoms).atoms ≤ length atoms + sum_by parts es) × (sum_by size (formulas same names es atoms).made ≡ sum_by parts es)
formulas_few same names [] atoms = (omega arith, refl)
formulas_few same names (e ∷ es) atoms =
    let first = formula same names e atoms in
    let here = formula_met same names e atoms in
    let rest = formulas_few same names es first.atoms in
    let fs = (formulas same names es first.atoms).made in
    (omega (arith, here.few, rest.0, sum_by-cons parts e es), omega (arith, here.as_many, rest.1, sum_by-cons parts e es, sum_by-cons size first.made fs))

-- each constraint speaks of variables that a configuration gives a state
pub theory_uses : {N : Type 0} (same : N → N → Bool) (f : FeaturesOf N) → AllByRecursion (Uses (states (theory same f))) (theory same f).constraints
theory_uses same f = (formulas_met same (booleans f.params) f.constraints []).1
