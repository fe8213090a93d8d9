-- A leaf is a parameter or an atom, by the numbers that are kept.
use Rattle.std.proofs.Common.{◌≡◌, ℕ, ◌+◌, ◌<◌, List, [], ◌∷◌, length, Option, Some, None, unwrap_or, IfSome, nat_eq, refl, sym, ap, ◌∙◌, subst, arith}
use Rattle.std.proofs.lemmas.List.{length-map, map-append}
use Rattle.spec_expressions.specs.Expression.{ExprOf}
use Rattle.spec_features.specs.Formula as spec
use Rattle.spec_features.specs.Theory.{atom, parameter, parameter_or_atom, leaf}
use Rattle.mrs_names.specs.declared.name_id.NameId.{NameId}
use Rattle.mrs_arena.specs.Expressions.{expr_at}
use Rattle.mrs_arena.specs.declared.expr_id.ExprId.{ExprId}
use Rattle.expr_classes.specs.Classes.{Numbered, AreBelow, class_in}
use Rattle.feat_model.specs.declared.formula.Formula.{Formula}
use Rattle.feat_model.specs.Views.{formula_of}
use Rattle.feat_model.specs.Found.{atoms_of, number_of, with_atom, AreNumbered}
use Rattle.feat_model.specs.Meets.{numbers_of, IsScope, Meets}
use Rattle.feat_model.proofs.Numbers.{number_is}

class_low : (n : Numbered) → AreBelow n → (e : ℕ) → e < length n.classes → IfSome (class_in n.classes e) (λ c. c < n.count)
class_low n below e lt = go (class_in n.classes e) refl
  where
    go : (o : Option ℕ) → class_in n.classes e ≡ o → IfSome o (λ c. c < n.count)
    go (Some c) is = below e c lt is
    go None is = tt

atom_met : (exprs : List (ExprOf ℕ)) (before b k : ℕ) (found new : List ExprId) (e : ExprId) (f : Formula) (o : Option ℕ) → b ≡ before → k ≡ unwrap_or o (length found) → new ≡ with_atom o e found
    → formula_of f ≡ spec.Variable (b + k + 1) → Meets exprs (atom before (expr_at exprs e.0) (atoms_of exprs found) o) f new
atom_met exprs before b k found new e f (Some n) b_is k_is new_is f_is = record {
  formula_is = f_is ∙ ap (λ x. spec.Variable (x + k + 1)) b_is ∙ ap (λ x. spec.Variable (before + x + 1)) k_is;
  atoms_are = ap (atoms_of exprs) new_is;
}
atom_met exprs before b k found new e f None b_is k_is new_is f_is = record {
  formula_is = f_is ∙ ap (λ x. spec.Variable (x + k + 1)) b_is ∙ ap (λ x. spec.Variable (before + x + 1)) (k_is ∙ sym (length-map found (λ (a : ExprId). expr_at exprs a.0)));
  atoms_are = ap (atoms_of exprs) new_is ∙ map-append (λ (a : ExprId). expr_at exprs a.0) found (e ∷ []);
}

pub leaf_met : (exprs : List (ExprOf ℕ)) (classes : Numbered) (keys : List NameId) (found new : List ExprId) (numbers : List (Option ℕ)) (e : ExprId) (f : Formula) (b k : ℕ) → IsScope exprs classes keys
    → AreNumbered classes.classes classes.count found numbers → e.0 < length exprs → parameter nat_eq (numbers_of keys) (expr_at exprs e.0) ≡ None → b ≡ length keys
    → k ≡ unwrap_or (number_of classes.classes numbers e.0) (length found) → new ≡ with_atom (number_of classes.classes numbers e.0) e found → formula_of f ≡ spec.Variable (b + k + 1)
    → Meets exprs (leaf nat_eq (numbers_of keys) (expr_at exprs e.0) (atoms_of exprs found)) f new
leaf_met exprs classes keys found new numbers e f b k scope numbered lt none b_is k_is new_is f_is =
    let P : Option ℕ → Type 0 = λ o. Meets exprs (parameter_or_atom nat_eq (numbers_of keys) (expr_at exprs e.0) (atoms_of exprs found) o) f new in
    let Q : Option ℕ → Type 0 = λ o. Meets exprs (atom (length (numbers_of keys)) (expr_at exprs e.0) (atoms_of exprs found) o) f new in
    let number = number_is exprs classes.classes classes.count found numbers e.0 scope.are numbered lt (class_low classes scope.below e.0 (omega (arith, scope.are.as_many, lt))) in
    subst P (sym none) (subst Q number
    (atom_met exprs (length (numbers_of keys)) b k found new e f (number_of classes.classes numbers e.0) (b_is ∙ sym (length-map keys (λ (name : NameId). name.0))) k_is new_is f_is))
