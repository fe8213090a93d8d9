-- What the formulas of this crate stand for.
use Rattle.spec_features.specs.Formula as formulas
use Rattle.feat_model.specs.declared.connective.Connective.{Connective}
use Rattle.feat_model.specs.declared.connective.Connective.TheVariants.{Conjunction, Disjunction, Implication, Equivalence}
use Rattle.feat_model.specs.declared.formula.Formula.{Formula, Constant, Variable, Negation', Joined'}

abbrev pub connective_of : Connective → formulas.Connective
connective_of Conjunction = formulas.Conjunction
connective_of Disjunction = formulas.Disjunction
connective_of Implication = formulas.Implication
connective_of Equivalence = formulas.Equivalence

abbrev pub formula_of : Formula → formulas.Formula
formula_of (Constant b) = formulas.Constant b
formula_of (Variable n) = formulas.Variable n
formula_of (Negation' p f) = formulas.Negation (formula_of f)
formula_of (Joined' c p f q g) = formulas.Joined (connective_of c) (formula_of f) (formula_of g)
