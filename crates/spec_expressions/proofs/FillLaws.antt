-- What is known rests on no Other.
use Rattle.std.proofs.Common.{refl, sym, ap, subst, ℕ, List, inl, inr}
use Rattle.spec_expressions.specs.Expression.{Expr, Name, Not, Binary, Call, Set, Join, Slice, Other, Exprs, no_exprs, expr}
use Rattle.spec_expressions.specs.Scope.{Field, Configuration}
use Rattle.spec_expressions.specs.Operations.{as_truth}
use Rattle.spec_expressions.specs.Value.{implemented, value, values, elements}
use Rattle.spec_expressions.specs.Known.{Stays, Extends, FilledBy, AllFilledBy, RestsOnNoOther}
use Rattle.spec_expressions.proofs.StayLaws.{Kept, AllStay, ElementsStay, kept-negation, kept-as_truth, stays-truth, kept-binary, stays-in_a_row, stays-sliced, stays-call, stays, elements-stay}

same : (g : Configuration) → Extends g g
same g s state e = e

kept-filled : (es fs : Exprs) (g : Configuration) → AllFilledBy es fs → Kept (implemented es g) (implemented fs g)
kept-filled (expr (Name s) no_exprs) (expr f no_exprs) g fills = inr (ap (λ f. implemented (expr f no_exprs) g) (sym fills.0))
kept-filled (expr (Name s) no_exprs) (expr f (expr f' fs)) g fills = absurd fills.1
kept-filled (expr (Name s) no_exprs) no_exprs g fills = absurd fills
kept-filled es fs g fills = inl refl

mutual
  filled : (e f : Expr) (g : Configuration) (fields : List Field) (w : ℕ) → FilledBy e f → Stays (value e g fields w) (value f g fields w)
  filled Other f g fields w fills = inl refl
  filled (Not e) (Not f) g fields w fills =
      stays-truth _ _ (kept-negation (as_truth (value e g fields w)) (as_truth (value f g fields w)) (kept-as_truth (value e g fields w) (value f g fields w) (filled e f g fields w fills)))
  filled (Binary op l r) (Binary op' l' r') g fields w fills =
      subst (λ op'. Stays (value (Binary op l r) g fields w) (value (Binary op' l' r') g fields w)) fills.0
      (stays-truth _ _ (kept-binary op (value l g fields w) (value l' g fields w) (value r g fields w) (value r' g fields w) (elements r g fields w) (elements r' g fields w)
      (filled l l' g fields w fills.1) (filled r r' g fields w fills.2) (elements-filled r r' g fields w fills.2)))
  filled (Call name es) (Call name' fs) g fields w fills =
      subst (λ name'. Stays (value (Call name es) g fields w) (value (Call name' fs) g fields w)) fills.0
      (stays-call name es fs (values es g fields w) (values fs g fields w) g g (values-filled es fs g fields w fills.1) (kept-filled es fs g fills.1))
  filled (Set es) (Set fs) g fields w fills = inl refl
  filled (Join es) (Join fs) g fields w fills = stays-in_a_row (values es g fields w) (values fs g fields w) (values-filled es fs g fields w fills)
  filled (Slice e high low) (Slice e' high' low') g fields w fills =
      stays-sliced (value e g fields w) (value e' g fields w) (value high g fields w) (value high' g fields w) (value low g fields w) (value low' g fields w)
      (filled e e' g fields w fills.0) (filled high high' g fields w fills.1) (filled low low' g fields w fills.2)
  filled e f g fields w fills = subst (λ f. Stays (value e g fields w) (value f g fields w)) fills (stays e g g fields w (same g))

  values-filled : (es fs : Exprs) (g : Configuration) (fields : List Field) (w : ℕ) → AllFilledBy es fs → AllStay (values es g fields w) (values fs g fields w)
  values-filled no_exprs no_exprs g fields w fills = tt
  values-filled no_exprs (expr f fs) g fields w fills = absurd fills
  values-filled (expr e es) no_exprs g fields w fills = absurd fills
  values-filled (expr e es) (expr f fs) g fields w fills = (filled e f g fields w fills.0, values-filled es fs g fields w fills.1)

  elements-filled : (e f : Expr) (g : Configuration) (fields : List Field) (w : ℕ) → FilledBy e f → ElementsStay (elements e g fields w) (elements f g fields w)
  elements-filled (Set es) (Set fs) g fields w fills = values-filled es fs g fields w fills
  elements-filled (Set es) f g fields w fills = subst (λ f. ElementsStay (elements (Set es) g fields w) (elements f g fields w)) fills (elements-stay (Set es) g g fields w (same g))
  elements-filled e f g fields w fills = tt

pub rests_on_no_other : RestsOnNoOther
rests_on_no_other e f g fields w fills = filled e f g fields w fills
