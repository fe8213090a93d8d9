-- What holds of a model, and what its fields stand for.
use Rattle.std.specs.Prelude.{ℕ, ◌≤◌, List, length, map, sum_by}
use Rattle.std.specs.List.{AllByRecursion, IsDistinct}
use Rattle.std.specs.Prelude.{nat_eq}
use Rattle.mrs_names.specs.declared.name_id.NameId.{NameId}
use Rattle.spec_features.specs.Formula.{Uses, size}
use Rattle.spec_features.specs.Theory.{TheoryOf, states}
use Rattle.feat_model.specs.declared.formula.Formula.{Formula}
use Rattle.feat_model.specs.Views.{formula_of}

-- names are distinct, constraints speak of parameters and atoms alone, and there are not too many of all these
pub record IsModel (t : TheoryOf ℕ) : Type 0 where
  pub distinct : IsDistinct nat_eq t.names
  pub closed : AllByRecursion (Uses (states t)) t.constraints
  pub few_names : length t.names ≤ 4096
  pub few_atoms : t.atoms ≤ 4194304
  pub few_parts : sum_by size t.constraints ≤ 4194304

abbrev pub theory_of : List NameId → ℕ → List Formula → TheoryOf ℕ
theory_of names atoms constraints = record { names = map (λ name. name.0) names; atoms = atoms; constraints = map formula_of constraints }
