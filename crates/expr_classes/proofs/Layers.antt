-- The key of an expression stands for it.
use Rattle.std.proofs.Common.{◌≡◌, ℕ, true, false, ◌&&◌, List, length, Option, Some, None, option_map, unwrap_or, slice_get, refl, sym, ap, ◌∙◌, subst, inl}
use Rattle.std.proofs.lemmas.Bool.{and_from, and_left, and_right}
use Rattle.std.proofs.lemmas.Option.{slice_get_within}
use Rattle.spec_expressions.specs.Expression.{ExprOf, Not, Binary, Call, Set, Join, Slice}
use Rattle.spec_features.specs.Fact.{no_other}
use Rattle.mrs_arena.specs.Expressions.{expr_at, list_of, layer, Below, op_of, function_by, itself}
use Rattle.mrs_arena.specs.declared.expr_id.ExprId.{ExprId}
use Rattle.mrs_arena.specs.declared.expr_ref.ExprRef.{ExprRef}
use Rattle.mrs_arena.specs.declared.expr_ref.ExprRef.TheVariants as ref
use Rattle.mrs_arena.specs.declared.op.Op.{Op}
use Rattle.expr_classes.specs.declared.key.Key.{Key}
use Rattle.expr_classes.specs.declared.key.Key.TheVariants as key
use Rattle.expr_classes.specs.Terms.{Term, expr_in, list_in, term_of, HasTerms}
use Rattle.expr_classes.specs.Classes.{class_in, Stands, ListStands, AllStand, HaveExprs, Grown, of_two, of_three, key_of, parts_of}
use Rattle.expr_classes.proofs.Lists.{grown_get}

-- a key that stands for an expression, or none since it holds an Other
abbrev pub KeyStands : List Term → Option Key → ExprOf ℕ → Type 0
KeyStands terms (Some k) e = HasTerms terms k × ((term_of terms k ≡ inl e) × (no_other e ≡ true))
KeyStands terms None e = no_other e ≡ false

pub grown_stands : (old new : List Term) (o : Option ℕ) (e : ExprOf ℕ) → Grown old new → Stands old o e → Stands new o e
grown_stands old new (Some c) e grown s = (grown_get old new c (inl e) grown s.0, s.1)
grown_stands old new None e grown s = s

one_key : (terms : List Term) (o : Option ℕ) (e : ExprOf ℕ) → Stands terms o e → KeyStands terms (option_map key.Not o) (Not e)
one_key terms (Some c) e s = ((e, s.0), (ap (λ o. inl (Not (expr_in o))) s.0, s.1))
one_key terms None e s = s

two_key : (terms : List Term) (op : Op) (o p : Option ℕ) (e f : ExprOf ℕ) → Stands terms o e → Stands terms p f → KeyStands terms (of_two (key.Binary op) o p) (Binary (op_of op) e f)
two_key terms op (Some c) (Some d) e f s t = (
  ((e, s.0), (f, t.0)),
  (
    ap (λ o. inl (Binary (op_of op) (expr_in o) (expr_in (slice_get terms d)))) s.0 ∙ ap (λ o. inl (Binary (op_of op) e (expr_in o))) t.0,
    and_from (no_other e) (no_other f) s.1 t.1,
  ),
)
two_key terms op (Some c) None e f s t = and_right (no_other e) (no_other f) t
two_key terms op None p e f s t = and_left (no_other e) (no_other f) s

three_key : (terms : List Term) (o p q : Option ℕ) (e f g : ExprOf ℕ) → Stands terms o e → Stands terms p f → Stands terms q g → KeyStands terms (of_three key.Slice o p q) (Slice e f g)
three_key terms (Some c) (Some d) (Some b) e f g s t u = (
  ((e, s.0), ((f, t.0), (g, u.0))),
  (
    ap (λ o. inl (Slice (expr_in o) (expr_in (slice_get terms d)) (expr_in (slice_get terms b)))) s.0
        ∙ ap (λ o. inl (Slice e (expr_in o) (expr_in (slice_get terms b)))) t.0 ∙ ap (λ o. inl (Slice e f (expr_in o))) u.0,
    and_from (no_other e) (no_other f && no_other g) s.1 (and_from (no_other f) (no_other g) t.1 u.1),
  ),
)
three_key terms (Some c) (Some d) None e f g s t u = and_right (no_other e) (no_other f && no_other g) (and_right (no_other f) (no_other g) u)
three_key terms (Some c) None q e f g s t u = and_right (no_other e) (no_other f && no_other g) (and_left (no_other f) (no_other g) t)
three_key terms None p q e f g s t u = and_left (no_other e) (no_other f && no_other g) s

-- all parts have smaller numbers than the classes that stand
pub key_stands : (terms : List Term) (classes : List (Option ℕ)) (exprs : List (ExprOf ℕ)) (list : Option ℕ) (e : ExprRef) → AllStand terms classes exprs → Below (length classes) e
    → ListStands terms list (list_of (expr_at exprs) (parts_of e)) → KeyStands terms (key_of classes list e) (layer (expr_at exprs) e)
key_stands terms classes exprs list (ref.Truth b) all below s = (tt, (refl, refl))
key_stands terms classes exprs list (ref.Integer n) all below s = (tt, (refl, refl))
key_stands terms classes exprs list (ref.Bits p) all below s = (record { pattern = p; width_is = refl; mask_is = refl; value_is = refl }, (refl, refl))
key_stands terms classes exprs list (ref.Name name) all below s = (tt, (refl, refl))
key_stands terms classes exprs list (ref.Not a) all below s = one_key terms (class_in classes a.0) (expr_at exprs a.0) (all a.0 below)
key_stands terms classes exprs list (ref.Binary op a b) all below s =
    two_key terms op (class_in classes a.0) (class_in classes b.0) (expr_at exprs a.0) (expr_at exprs b.0) (all a.0 below.0) (all b.0 below.1)
key_stands terms classes exprs (Some c) (ref.Call f args) all below s = ((list_of (expr_at exprs) args.now, s.0), (ap (λ o. inl (Call (function_by itself f) (list_in o))) s.0, s.1))
key_stands terms classes exprs None (ref.Call f args) all below s = s
key_stands terms classes exprs (Some c) (ref.Set members) all below s = ((list_of (expr_at exprs) members.now, s.0), (ap (λ o. inl (Set (list_in o))) s.0, s.1))
key_stands terms classes exprs None (ref.Set members) all below s = s
key_stands terms classes exprs (Some c) (ref.Join parts) all below s = ((list_of (expr_at exprs) parts.now, s.0), (ap (λ o. inl (Join (list_in o))) s.0, s.1))
key_stands terms classes exprs None (ref.Join parts) all below s = s
key_stands terms classes exprs list (ref.Slice bits high low) all below s =
    three_key terms (class_in classes bits.0) (class_in classes high.0) (class_in classes low.0) (expr_at exprs bits.0) (expr_at exprs high.0) (expr_at exprs low.0)
    (all bits.0 below.0) (all high.0 below.1.0) (all low.0 below.1.1)
key_stands terms classes exprs list ref.Other all below s = refl

-- the same of an expression that is read so, over terms that joined since
pub read_stands : (old terms : List Term) (classes : List (Option ℕ)) (exprs : List (ExprOf ℕ)) (list : Option ℕ) (e : ExprRef) (n : ℕ) (key : Option Key) (parts : List ExprId) → AllStand old classes exprs → Grown old terms
    → n ≡ length classes → Below n e → parts ≡ parts_of e → ListStands terms list (list_of (expr_at exprs) parts) → expr_at exprs n ≡ layer (expr_at exprs) e → key ≡ key_of classes list e → KeyStands terms key (expr_at exprs n)
read_stands old terms classes exprs list e n key parts all grown count below parts_are s is key_is =
    let S : List ExprId → Type 0 = λ ps. ListStands terms list (list_of (expr_at exprs) ps) in
    let P : ℕ → Type 0 = λ m. Below m e in
    let Q : Option Key → Type 0 = λ k. KeyStands terms k (expr_at exprs n) in
    let R : ExprOf ℕ → Type 0 = λ f. KeyStands terms (key_of classes list e) f in
    subst Q (sym key_is) (subst R (sym is) (key_stands terms classes exprs list e
    (λ k lt. grown_stands old terms (class_in classes k) (expr_at exprs k) grown (all k lt)) (subst P count below) (subst S parts_are s)))

-- what stands for expressions is that of expressions
pub all_have : (terms : List Term) (classes : List (Option ℕ)) (exprs : List (ExprOf ℕ)) → AllStand terms classes exprs → HaveExprs terms classes
all_have terms classes exprs all k c is = go (slice_get classes k) refl is
  where
    go : (o : Option (Option ℕ)) → slice_get classes k ≡ o → unwrap_or o None ≡ Some c → (e : ExprOf ℕ) × (slice_get terms c ≡ Some (inl e))
    go None e h = absurd cc
    go (Some d) e h =
        let P : Option ℕ → Type 0 = λ x. Stands terms x (expr_at exprs k) in
        let s : Stands terms (Some c) (expr_at exprs k) = subst P is (all k (slice_get_within classes k d e)) in
        (expr_at exprs k, s.0)
