-- A model of features is their theory.
use Rattle.std.proofs.Common.{◌≡◌, ◌≢◌, ℕ, zero, suc, ◌<◌, ◌≤◌, Bool, true, false, cond, List, [], ◌∷◌, length, map, get_or, nat_eq, sym, ap, ◌∙◌, subst, arith}
use Rattle.std.specs.Prelude.{AllPairs, filter, sum_by}
use Rattle.std.specs.List.{IsDistinct}
use Rattle.std.proofs.lemmas.Bool.Decides.{Decides-eqb}
use Rattle.std.proofs.lemmas.List.{length-map, get_or-map}
use Rattle.std.proofs.lemmas.List.Kept.{AllPairs-filter}
use Rattle.std.proofs.lemmas.Map.Made.{IsDistinct-from_AllPairs}
use Rattle.spec_features.specs.Features.{ParamOf, is_boolean, booleans}
use Rattle.spec_features.specs.Theory.{TheoryOf, theory, formulas, parts}
use Rattle.spec_features.proofs.Uses.{theory_uses, formulas_few}
use Rattle.mrs_names.specs.declared.name_id.NameId.{NameId}
use Rattle.mrs_arena.specs.Expressions.{expr_at}
use Rattle.mrs_arena.specs.declared.expr_id.ExprId.{ExprId}
use Rattle.features_reader.specs.declared.features.Param.{Param}
use Rattle.features_reader.specs.declared.features.Features.{Features}
use Rattle.features_reader.specs.FeatureViews.{param_of, features_of, AreFeatures}
use Rattle.feat_model.specs.declared.formula.Formula.{Formula}
use Rattle.feat_model.specs.Found.{atoms_of}
use Rattle.feat_model.specs.Meets.{exprs_at, numbers_of, MeetAll}
use Rattle.feat_model.specs.Inside.{IsModel, theory_of}

some_at : {X : Type 0} (xs : List X) (p : ℕ) → p < length xs → X
some_at [] p lt = absurd (omega (arith, lt))
some_at (x ∷ xs) zero lt = x
some_at (x ∷ xs) (suc p) lt = some_at xs p (omega (arith, lt))

pairs_map : {X Y : Type 0} (R : Y → Y → Type 0) (f : X → Y) (xs : List X) → AllPairs (λ a b. R (f a) (f b)) xs → AllPairs R (map f xs)
pairs_map R f xs all i j e lt within =
    let low : j < length xs = omega (arith, within, length-map xs f) in
    let d = some_at xs j low in
    let first = get_or-map f xs i d e (omega (arith, lt, low)) in
    let second = get_or-map f xs j d e low in
    let P : _ → Type 0 = λ y. R y (get_or (map f xs) j e) in
    let Q : _ → Type 0 = λ y. R (f (get_or xs i d)) y in
    subst P (sym first) (subst Q (sym second) (all i j d lt low))

filter_few : {X : Type 0} (p : X → Bool) (xs : List X) → length (filter p xs) ≤ length xs
filter_few p [] = omega arith
filter_few p (x ∷ xs) = go (p x) (filter_few p xs)
  where
    go : (b : Bool) → length (filter p xs) ≤ length xs → length (cond b (x ∷ filter p xs) (filter p xs)) ≤ length (x ∷ xs)
    go true le = omega (arith, le)
    go false le = omega (arith, le)

booleans_few : (params : List Param) → length (booleans (map param_of params)) ≤ length params
booleans_few params =
    omega (arith, length-map (filter (λ (p : ParamOf ℕ). is_boolean p.kind) (map param_of params)) (λ (p : ParamOf ℕ). p.name), filter_few (λ (p : ParamOf ℕ). is_boolean p.kind) (map param_of params), length-map params param_of)

pub names_few : (params : List Param) (keys : List NameId) → numbers_of keys ≡ booleans (map param_of params) → length params ≤ 4096 → length keys ≤ 4096
names_few params keys are few = omega (arith, booleans_few params, ap length are, length-map keys (λ (k : NameId). k.0), few)

booleans_apart : (params : List Param) → AllPairs (λ first second. first.name.0 ≢ second.name.0) params → IsDistinct nat_eq (booleans (map param_of params))
booleans_apart params apart =
    IsDistinct-from_AllPairs Decides-eqb (booleans (map param_of params))
    (pairs_map (λ (a b : ℕ). a ≢ b) (λ (p : ParamOf ℕ). p.name) (filter (λ (p : ParamOf ℕ). is_boolean p.kind) (map param_of params))
    (AllPairs-filter (λ (a b : ParamOf ℕ). a.name ≢ b.name) (λ (p : ParamOf ℕ). is_boolean p.kind) (map param_of params)
    (pairs_map (λ (a b : ParamOf ℕ). a.name ≢ b.name) param_of params apart)))

pub theory_is : (f : Features) (cs : List ExprId) (keys : List NameId) (start found : List ExprId) (fs : List Formula) (n : ℕ) → numbers_of keys ≡ booleans (map param_of f.params.items) → start ≡ [] → cs ≡ f.constraints.items
    → MeetAll f.arena.exprs (formulas nat_eq (numbers_of keys) (exprs_at f.arena.exprs cs) (atoms_of f.arena.exprs start)) fs found → n ≡ length found
    → theory_of keys n fs ≡ theory nat_eq (features_of f)
theory_is f cs keys start found fs n names none cs_are read n_is =
    let R : List ExprId → Type 0 = λ xs. MeetAll f.arena.exprs (formulas nat_eq (numbers_of keys) (exprs_at f.arena.exprs xs) (atoms_of f.arena.exprs start)) fs found in
    let met = subst R cs_are read in
    let names_of = booleans (map param_of f.params.items) in
    let es = exprs_at f.arena.exprs f.constraints.items in
    let P : List ℕ → Type 0 = λ ns. MeetAll f.arena.exprs (formulas nat_eq ns es (atoms_of f.arena.exprs start)) fs found in
    let Q : List ExprId → Type 0 = λ s. MeetAll f.arena.exprs (formulas nat_eq names_of es (atoms_of f.arena.exprs s)) fs found in
    let whole : MeetAll f.arena.exprs (formulas nat_eq names_of es []) fs found = subst Q none (subst P names met) in
    let count : n ≡ length (formulas nat_eq names_of es []).atoms = n_is ∙ sym (length-map found (λ (e : ExprId). expr_at f.arena.exprs e.0)) ∙ ap length whole.atoms_are in
    together names_of (numbers_of keys) n (length (formulas nat_eq names_of es []).atoms) _ (formulas nat_eq names_of es []).made names count whole.formulas_are
  where
    together : (names names' : List ℕ) (n n' : ℕ) (fs fs' : _) → names' ≡ names → n ≡ n' → fs ≡ fs' → (let t : TheoryOf ℕ = record { names = names'; atoms = n; constraints = fs } in t) ≡ record { names = names; atoms = n'; constraints = fs' }
    together names names' n n' fs fs' a b c =
        ap (λ ns. let t : TheoryOf ℕ = record { names = ns; atoms = n; constraints = fs } in t) a
        ∙ ap (λ k. let t : TheoryOf ℕ = record { names = names; atoms = k; constraints = fs } in t) b
        ∙ ap (λ gs. let t : TheoryOf ℕ = record { names = names; atoms = n'; constraints = gs } in t) c

pub theory_good : (f : Features) → AreFeatures f → sum_by parts (features_of f).constraints ≤ 4194304 → IsModel (theory nat_eq (features_of f))
theory_good f are few =
    let t = features_of f in
    let counts = formulas_few nat_eq (booleans t.params) t.constraints [] in
    record {
      distinct = booleans_apart f.params.items are.distinct;
      closed = theory_uses nat_eq t;
      few_names = omega (arith, booleans_few f.params.items, are.few);
      few_atoms = omega (arith, counts.0, few);
      few_parts = omega (arith, counts.1, few);
    }

pub found_few : (f : Features) (cs : List ExprId) (keys : List NameId) (start found : List ExprId) (fs : List Formula) → start ≡ [] → cs ≡ f.constraints.items
    → MeetAll f.arena.exprs (formulas nat_eq (numbers_of keys) (exprs_at f.arena.exprs cs) (atoms_of f.arena.exprs start)) fs found
    → sum_by parts (features_of f).constraints ≤ 4194304 → length found ≤ 4194304
found_few f cs keys start found fs none cs_are read few =
    let R : List ExprId → Type 0 = λ xs. MeetAll f.arena.exprs (formulas nat_eq (numbers_of keys) (exprs_at f.arena.exprs xs) (atoms_of f.arena.exprs start)) fs found in
    let met = subst R cs_are read in
    let exprs = f.arena.exprs in
    let counts = formulas_few nat_eq (numbers_of keys) (exprs_at exprs f.constraints.items) (atoms_of exprs start) in
    omega (arith, counts.0, few, ap length met.atoms_are, length-map found (λ (e : ExprId). expr_at exprs e.0), length-map start (λ (e : ExprId). expr_at exprs e.0), ap length none)
