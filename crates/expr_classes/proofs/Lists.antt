-- Classes of lists.
use Rattle.std.proofs.Common.{◌≡◌, ℕ, zero, suc, ◌+◌, ◌<◌, Bool, true, false, ◌&&◌, List, [], ◌∷◌, ◌++◌, length, drop, Option, Some, None, slice_get, refl, sym, ap, ◌∙◌, subst, inl, inr, arith, append_assoc}
use Rattle.std.proofs.lemmas.Bool.{and_from}
use Rattle.spec_expressions.specs.Expression.{ExprOf, no_exprs, expr}
use Rattle.spec_features.specs.Fact.{no_other, no_others}
use Rattle.mrs_arena.specs.Expressions.{expr_at, list_of}
use Rattle.mrs_arena.specs.declared.expr_id.ExprId.{ExprId}
use Rattle.expr_classes.specs.declared.key.Key.TheVariants as key
use Rattle.expr_classes.specs.Terms.{Term, expr_in, list_in, term_of}
use Rattle.expr_classes.specs.Classes.{class_in, Stands, ListStands, AllStand, HaveExprs, Grown, ListAt}
use Rattle.expr_classes.proofs.Growing.{stays}

pub grown_get : (old new : List Term) (p : ℕ) (x : Term) → Grown old new → slice_get old p ≡ Some x → slice_get new p ≡ Some x
grown_get old new p x grown e = ap (λ ts. slice_get ts p) grown.1 ∙ stays old grown.0 p x e

pub grown_have : (old new : List Term) (classes : List (Option ℕ)) → Grown old new → HaveExprs old classes → HaveExprs new classes
grown_have old new classes grown have k c e = let h = have k c e in (h.0, grown_get old new c (inl h.0) grown h.1)

pub grown_both : (a b c : List Term) → Grown a b → Grown b c → Grown a c
grown_both a b c x y = (x.0 ++ y.0, y.1 ∙ ap (λ ts. ts ++ y.0) x.1 ∙ append_assoc a x.0 y.0)

-- what is left of a list behind its last parts is one part longer
pub part_left : {X : Type 0} (xs : List X) (k n : ℕ) (x : X) → n ≡ k + 1 → slice_get xs k ≡ Some x → drop k xs ≡ x ∷ drop n xs
part_left [] k n x e at = absurd cc
part_left (y ∷ xs) zero n x e at =
    let same : y ≡ x = cc in
    let one : n ≡ suc zero = omega (arith, e) in
    ap (λ z. z ∷ xs) same ∙ ap (λ m. x ∷ drop m (y ∷ xs)) (sym one)
part_left (y ∷ xs) (suc k) n x e at =
    let next : n ≡ suc (suc k) = omega (arith, e) in
    part_left xs k (suc k) x (omega arith) at ∙ ap (λ m. x ∷ drop m (y ∷ xs)) (sym next)

none_left : {X : Type 0} (xs : List X) (n : ℕ) → n ≡ length xs → drop n xs ≡ []
none_left [] n e = let z : n ≡ zero = omega (arith, e) in ap (λ m. drop m []) z
none_left (x ∷ xs) n e = let z : n ≡ suc (length xs) = omega (arith, e) in ap (λ m. drop m (x ∷ xs)) z ∙ none_left xs (length xs) refl

-- the list of no parts
pub list_begins : (start now : List Term) (classes : List (Option ℕ)) (parts : List ExprId) (n c : ℕ) → n ≡ length parts → HaveExprs start classes → Grown start now
    → slice_get now c ≡ Some (term_of start key.Empty) → ListAt start now classes (drop n parts) c
list_begins start now classes parts n c len have grown at =
    let P : List ExprId → Type 0 = λ rest. ListAt start now classes rest c in
    subst P (sym (none_left parts n len)) (record {
      grown = grown;
      have = grown_have start now classes grown have;
      list = (no_exprs, at);
      stands = λ exprs all. (at, refl);
    })

-- one part in front
pub list_goes_on : (start now new : List Term) (classes : List (Option ℕ)) (parts : List ExprId) (n k c d first : ℕ) (part : ExprId) → n ≡ k + 1 → slice_get parts k ≡ Some part
    → ListAt start now classes (drop n parts) c → part.0 < length classes → class_in classes part.0 ≡ Some first → Grown now new → slice_get new d ≡ Some (term_of now (key.Chain first c))
    → ListAt start new classes (drop k parts) d
list_goes_on start now new classes parts n k c d first part next at before within class grown is =
    let P : List ExprId → Type 0 = λ rest. ListAt start new classes rest d in
    let whole = grown_both start now new before.grown grown in
    subst P (sym (part_left parts k n part next at)) (record {
      grown = whole;
      have = grown_have now new classes grown before.have;
      list = (expr (expr_in (slice_get now first)) (list_in (slice_get now c)), is);
      stands = λ exprs all.
          let Q : Option ℕ → Type 0 = λ o. Stands start o (expr_at exprs part.0) in
          let one : Stands start (Some first) (expr_at exprs part.0) = subst Q class (all part.0 within) in
          let rest = before.stands exprs all in
          let head : expr_in (slice_get now first) ≡ expr_at exprs part.0 = ap expr_in (grown_get start now first (inl (expr_at exprs part.0)) before.grown one.0) in
          let tail : list_in (slice_get now c) ≡ list_of (expr_at exprs) (drop n parts) = ap list_in rest.0 in (
            is ∙ ap (λ e. Some (inr (expr e (list_in (slice_get now c))))) head ∙ ap (λ es. Some (inr (expr (expr_at exprs part.0) es))) tail,
            and_from (no_other (expr_at exprs part.0)) (no_others (list_of (expr_at exprs) (drop n parts))) one.1 rest.1,
          );
    })

-- a part without a class
other_among : (exprs : List (ExprOf ℕ)) (parts : List ExprId) (k : ℕ) (part : ExprId) → slice_get parts k ≡ Some part → no_other (expr_at exprs part.0) ≡ false
    → no_others (list_of (expr_at exprs) parts) ≡ false
other_among exprs [] k part at other = absurd cc
other_among exprs (p ∷ parts) zero part at other =
    let same : p ≡ part = cc in
    ap (λ (q : ExprId). no_other (expr_at exprs q.0) && no_others (list_of (expr_at exprs) parts)) same ∙ ap (λ b. b && no_others (list_of (expr_at exprs) parts)) other
other_among exprs (p ∷ parts) (suc k) part at other = go (no_other (expr_at exprs p.0)) (other_among exprs parts k part at other)
  where
    go : (b : Bool) → no_others (list_of (expr_at exprs) parts) ≡ false → (b && no_others (list_of (expr_at exprs) parts)) ≡ false
    go true h = h
    go false h = refl

pub list_stops : (start : List Term) (classes : List (Option ℕ)) (parts : List ExprId) (k : ℕ) (part : ExprId) → slice_get parts k ≡ Some part → part.0 < length classes
    → class_in classes part.0 ≡ None → (exprs : List (ExprOf ℕ)) → AllStand start classes exprs → ListStands start None (list_of (expr_at exprs) parts)
list_stops start classes parts k part at within class exprs all =
    let Q : Option ℕ → Type 0 = λ o. Stands start o (expr_at exprs part.0) in
    other_among exprs parts k part at (subst Q class (all part.0 within))
