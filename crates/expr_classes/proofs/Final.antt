-- Classes that stand for the expressions tell which of them state one fact.
use Rattle.std.proofs.Common.{◌≡◌, ◌==◌, ℕ, suc, ◌<◌, ◌≤◌, Bool, true, false, List, [], ◌∷◌, ◌++◌, length, Option, Some, None, unwrap_or, slice_get, nat_eq, IfSome, refl, sym, ap, ◌∙◌, subst, inl, inr, ⊎_elim, ◌⊎◌, zero, arith}
use Rattle.std.proofs.lemmas.Bool.{both_ways, false_from_ne_true}
use Rattle.std.proofs.lemmas.Bool.Decides.{Decides-eqb}
use Rattle.std.proofs.lemmas.Option.{slice_get_within}
use Rattle.std.proofs.lemmas.List.{length-append}
use Rattle.mrs_names.proofs.ListLaws.{slice_get-append, slice_get-append_end}
use Rattle.spec_expressions.specs.Expression.{ExprOf}
use Rattle.spec_features.specs.Fact.{same_fact, no_other}
use Rattle.spec_features.proofs.FactLaws.{fact_is, fact_itself}
use Rattle.mrs_arena.specs.Expressions.{expr_at}
use Rattle.expr_classes.specs.Terms.{Term, AreApart}
use Rattle.expr_classes.specs.Classes.{class_in, same_class, Numbered, AreBelow, AreClasses, Stands, AllStand, Grown}
use Rattle.expr_classes.proofs.Layers.{grown_stands}

some_expr : {e f : ExprOf ℕ} → (let t : Term = inl e in Some t) ≡ Some (inl f) → e ≡ f
some_expr h = cc

same : (terms : List Term) → AreApart terms → (o p : Option ℕ) (e f : ExprOf ℕ) → Stands terms o e → Stands terms p f → same_class o p ≡ same_fact nat_eq e f
same terms apart (Some c) (Some d) e f s t = go (c == d) refl
  where
    differ : (c == d) ≡ false → same_fact nat_eq e f ≡ true → ⊥
    differ h is =
        let one : e ≡ f = (fact_is nat_eq Decides-eqb e f is).0 in
        let number : c ≡ d = apart c d (inl e) s.0 (t.0 ∙ ap (λ g. Some (inl g)) (sym one)) in
        both_ways (c == d) h ((Decides-eqb c d).1 number)

    go : (b : Bool) → (c == d) ≡ b → b ≡ same_fact nat_eq e f
    go true h =
        let one : e ≡ f = some_expr (sym s.0 ∙ ap (slice_get terms) ((Decides-eqb c d).0 h) ∙ t.0) in
        sym (ap (same_fact nat_eq e) (sym one) ∙ fact_itself nat_eq Decides-eqb e s.1)
    go false h = sym (false_from_ne_true (same_fact nat_eq e f) (differ h))
same terms apart (Some c) None e f s t = sym (false_from_ne_true (same_fact nat_eq e f) (λ is. both_ways (no_other f) t (ap no_other (sym (fact_is nat_eq Decides-eqb e f is).0) ∙ (fact_is nat_eq Decides-eqb e f is).1)))
same terms apart None p e f s t = sym (false_from_ne_true (same_fact nat_eq e f) (λ is. both_ways (no_other e) s (fact_is nat_eq Decides-eqb e f is).1))

pub are_classes : (terms : List Term) (classes : List (Option ℕ)) (exprs : List (ExprOf ℕ)) → AreApart terms → length classes ≡ length exprs → AllStand terms classes exprs → AreClasses exprs classes
are_classes terms classes exprs apart count all = record {
  as_many = count;
  same = λ i j li lj. same terms apart (class_in classes i) (class_in classes j) (expr_at exprs i) (expr_at exprs j) (all i (omega (arith, count, li))) (all j (omega (arith, count, lj)));
}

-- one class more
pub all_more : (old new : List Term) (classes : List (Option ℕ)) (exprs : List (ExprOf ℕ)) (class : Option ℕ) → AllStand old classes exprs → Grown old new
    → Stands new class (expr_at exprs (length classes)) → AllStand new (classes ++ class ∷ []) exprs
all_more old new classes exprs class all grown s k lt = go (sides k (length classes))
  where
    sides : (a b : ℕ) → (a < b) ⊎ (b ≤ a)
    sides a zero = inr (omega arith)
    sides zero (suc b) = inl (omega arith)
    sides (suc a) (suc b) = ⊎_elim (λ l. inl (omega (arith, l))) (λ l. inr (omega (arith, l))) (sides a b)

    go : (k < length classes) ⊎ (length classes ≤ k) → Stands new (class_in (classes ++ class ∷ []) k) (expr_at exprs k)
    go (inl low) =
        let P : Option ℕ → Type 0 = λ o. Stands new o (expr_at exprs k) in
        subst P (ap (λ o. unwrap_or o None) (sym (slice_get-append classes (class ∷ []) k low))) (grown_stands old new (class_in classes k) (expr_at exprs k) grown (all k low))
    go (inr high) =
        let here : k ≡ length classes = omega (arith, lt, length-append classes (class ∷ []), high) in
        let P : ℕ → Type 0 = λ m. Stands new (class_in (classes ++ class ∷ []) m) (expr_at exprs m) in
        let Q : Option ℕ → Type 0 = λ o. Stands new o (expr_at exprs (length classes)) in
        subst P (sym here) (subst Q (ap (λ o. unwrap_or o None) (sym (slice_get-append_end classes class []))) s)

pub none_stand : (exprs : List (ExprOf ℕ)) (terms : List Term) → AllStand terms [] exprs
none_stand exprs terms k lt = absurd (omega (arith, lt))

-- the number of a class is that of a term
pub class_within : (terms : List Term) (classes : List (Option ℕ)) (exprs : List (ExprOf ℕ)) → AllStand terms classes exprs → (k c : ℕ) → k < length classes → class_in classes k ≡ Some c → c < length terms
class_within terms classes exprs all k c lt is =
    let P : Option ℕ → Type 0 = λ o. Stands terms o (expr_at exprs k) in
    let s : Stands terms (Some c) (expr_at exprs k) = subst P is (all k lt) in
    slice_get_within terms c (inl (expr_at exprs k)) s.0

pub below_of : (n m : Numbered) → n ≡ m → AreBelow n → (k : ℕ) → k < length m.classes → (o : Option ℕ) → o ≡ class_in m.classes k → IfSome o (λ c. c < m.count)
below_of n m same below k lt o is =
    let P : Numbered → Type 0 = λ x. AreBelow x in
    go o is (λ c h. (subst P same below) k c lt h)
  where
    go : (o : Option ℕ) → o ≡ class_in m.classes k → ((c : ℕ) → class_in m.classes k ≡ Some c → c < m.count) → IfSome o (λ c. c < m.count)
    go None is h = tt
    go (Some c) is h = h c (sym is)
