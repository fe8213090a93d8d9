-- What the solver's answer says of configurations.
use Rattle.std.proofs.Common.{◌≡◌, ℕ, ◌+◌, ◌≤◌, ℤ, Bool, true, List, [], ◌∷◌, ◌++◌, take, drop, length, map, nat_eq, sym, ap, ◌∙◌, subst, arith}
use Rattle.std.specs.List.{AllByRecursion}
use Rattle.std.proofs.lemmas.List.{length-take}
use Rattle.std.proofs.Math.Seq.{take-add}
use Rattle.spec_refutation.specs.Literals.{satisfies}
use Rattle.spec_refutation.specs.Derivation.{Step}
use Rattle.spec_refutation.specs.Reading.{IsClause, IsHint, IsStep, IsLog}
use Rattle.spec_refutation.specs.First.{IsFirst, IsRefutation, assignment}
use Rattle.spec_refutation.proofs.Sound.{refutes_sound}
use Rattle.spec_refutation.proofs.Hinted as hinted
use Rattle.spec_expressions.specs.Scope.{Flag}
use Rattle.spec_features.specs.Theory.{TheoryOf, states}
use Rattle.spec_features.specs.Fits.{PinOf, Fits, IsFirstFitting}
use Rattle.spec_features.specs.Clauses.{variables, clauses}
use Rattle.spec_features.proofs.Exact.{from_grows}
use Rattle.spec_features.proofs.Firsts.{first_configuration, fitting_solves, extension}
use Rattle.ast_eval.specs.Choices.{Choices}
use Rattle.feat_model.specs.Inside.{IsModel}
use Rattle.feat_model.specs.Configures.{IsChosen}

abbrev Clauses : TheoryOf ℕ → List (PinOf ℕ) → ℕ × List (List ℤ)
Clauses t pins = (variables t, clauses nat_eq t pins)

-- the first solution has a state for each parameter and atom
pub first_reaches : (t : TheoryOf ℕ) (pins : List (PinOf ℕ)) (c : ℕ × List (List ℤ)) (all : List Bool) → c ≡ Clauses t pins → IsFirst c.0 c.1 all → states t ≤ length all
first_reaches t pins c all made first = omega (arith, first.whole, ap (λ (d : ℕ × List (List ℤ)). d.0) made, from_grows (states t) t.constraints)

pub first_chosen : (t : TheoryOf ℕ) (pins : List (PinOf ℕ)) (c : ℕ × List (List ℤ)) (all : List Bool) (g : Choices) → IsModel t → c ≡ Clauses t pins → IsFirst c.0 c.1 all
    → g.names ≡ t.names → g.states ≡ map Flag (take (length t.names) all) → g.atoms ≡ take t.atoms (drop (length t.names) all) → IsChosen t pins g
first_chosen t pins c all g is made first names states_are atoms_are =
    let P : ℕ × List (List ℤ) → Type 0 = λ d. IsFirst d.0 d.1 all in
    let Q : List Bool → Type 0 = λ h. IsFirstFitting nat_eq t pins h in
    let le = first_reaches t pins c all made first in
    let flags = take (length t.names) all in
    let whole : take (states t) all ≡ flags ++ g.atoms = take-add (length t.names) t.atoms all ∙ ap (λ h. flags ++ h) (sym atoms_are) in
    record {
      names_are = names;
      flags = flags;
      states_are = states_are;
      as_many = cut (length t.names) all (omega (arith, le));
      first = subst Q whole (first_configuration nat_eq t is.closed pins all (subst P made first));
    }
  where
    cut : (n : ℕ) (xs : List Bool) → n ≤ length xs → length (take n xs) ≡ n
    cut n xs le = omega (arith, length-take n xs, le)

-- where a configuration fits, the clauses have a solution
pub fitting_satisfies : (t : TheoryOf ℕ) (pins : List (PinOf ℕ)) (c : ℕ × List (List ℤ)) (g : List Bool) → IsModel t → c ≡ Clauses t pins → Fits nat_eq t pins g
    → satisfies (assignment (g ++ extension t g)) c.1 ≡ true
fitting_satisfies t pins c g is made fits =
    ap (λ (d : ℕ × List (List ℤ)). satisfies (assignment (g ++ extension t g)) d.1) made ∙ fitting_solves nat_eq t is.closed pins g fits

pub first_fits : (t : TheoryOf ℕ) (pins : List (PinOf ℕ)) (g : Choices) → IsChosen t pins g → ((h : List Bool) → Fits nat_eq t pins h → ⊥) → ⊥
first_fits t pins g chosen none = none (chosen.flags ++ g.atoms) chosen.first.fits

pub none_fits : (t : TheoryOf ℕ) (pins : List (PinOf ℕ)) (c : ℕ × List (List ℤ)) (steps : List Step) (g : List Bool) → IsModel t → c ≡ Clauses t pins → IsRefutation c.0 c.1 steps
    → Fits nat_eq t pins g → ⊥
none_fits t pins c steps g is made refutation fits =
    refutes_sound c.1 steps refutation.refutes (assignment (g ++ extension t g)) (fitting_satisfies t pins c g is made fits)

-- a refutation can be written with its clauses
pub refutation_written : (c : ℕ × List (List ℤ)) (steps : List Step) → c.0 ≤ 2147483647 → AllByRecursion (IsClause c.0) c.1 → IsRefutation c.0 c.1 steps → IsLog c.0 c.1 steps
refutation_written c steps few within refutation = record {
  counts = record { few_vars = few; few_lines = refutation.few };
  each_clause = within;
  each_step = both c.0 (length c.1 + length steps) steps refutation.within (hinted.refutes_within c.1 steps refutation.refutes);
}
  where
    both : (vars lines : ℕ) (ss : List Step) → AllByRecursion (λ (s : Step). IsClause vars s.0) ss → AllByRecursion (λ (s : Step). AllByRecursion (IsHint lines) s.1) ss → AllByRecursion (IsStep vars lines) ss
    both vars lines [] a b = tt
    both vars lines (s ∷ ss) a b = (record { clause = a.0; hints = b.0 }, both vars lines ss a.1 b.1)
