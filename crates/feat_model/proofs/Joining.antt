-- Names of boolean parameters join one by one.
use Rattle.std.proofs.Common.{◌≡◌, ◌≢◌, ◌==◌, ◌⊎◌, ℕ, zero, suc, ◌+◌, ◌<◌, Bool, true, false, cond, ◌||◌, List, [], ◌∷◌, ◌++◌, length, map, drop, get_or, Some, slice_get, refl, sym, ap, ◌∙◌, arith, add-one, append_assoc, inl, inr, ⊎_elim}
use Rattle.std.specs.Prelude.{AllPairs, filter}
use Rattle.std.specs.List.{list_any}
use Rattle.std.proofs.Math.Seq.{drop-cons}
use Rattle.std.proofs.lemmas.Bool.{false_from_ne_true}
use Rattle.std.proofs.lemmas.Bool.Decides.{Decides-eqb}
use Rattle.std.proofs.lemmas.List.{map-append}
use Rattle.std.proofs.lemmas.Option.{slice_get_within, get_or_from_slice_get}
use Rattle.spec_features.specs.Features.{ParamOf, is_boolean, booleans}
use Rattle.mrs_names.specs.declared.name_id.NameId.{NameId}
use Rattle.features_reader.specs.declared.features.Param.{Param}
use Rattle.features_reader.specs.FeatureViews.{param_kind_of, param_of}
use Rattle.feat_model.specs.Meets.{numbers_of, with_name, ComeFrom}

abbrev same_name : NameId → NameId → Bool
same_name a b = a.0 == b.0

-- a name that stands before is not that of the next parameter
fresh : (params : List Param) (i : ℕ) (p : Param) (keys : List NameId) → AllPairs (λ first second. first.name.0 ≢ second.name.0) params → ComeFrom params i keys → slice_get params i ≡ Some p
    → list_any (same_name p.name) keys ≡ false
fresh params i p keys apart from at = false_from_ne_true (list_any (same_name p.name) keys) (λ there.
    let h = from p.name.0 there in
    let q : Param = h.1 in
    let one : get_or params h.0 p ≡ q = get_or_from_slice_get params h.0 q p h.3 in
    let two : get_or params i p ≡ p = get_or_from_slice_get params i p p at in
    apart h.0 i p h.2 (slice_get_within params i p at) (ap (λ (x : Param). x.name.0) one ∙ h.4 ∙ ap (λ (x : Param). x.name.0) (sym two)))

-- the names that join and the boolean parameters that are left
joined : (keys new : List NameId) (p : Param) (rest : List Param) → list_any (same_name p.name) keys ≡ false → new ≡ with_name p keys
    → numbers_of new ++ booleans (map param_of rest) ≡ numbers_of keys ++ booleans (map param_of (p ∷ rest))
joined keys new p rest none is = go (is_boolean (param_kind_of p.kind)) is
  where
    go : (b : Bool) → new ≡ cond b (cond (list_any (same_name p.name) keys) keys (keys ++ p.name ∷ [])) keys
        → numbers_of new ++ booleans (map param_of rest) ≡ numbers_of keys ++ map (λ (q : ParamOf ℕ). q.name) (cond b (param_of p ∷ filter (λ (q : ParamOf ℕ). is_boolean q.kind) (map param_of rest)) (filter (λ (q : ParamOf ℕ). is_boolean q.kind) (map param_of rest)))
    go true e =
        let one : new ≡ keys ++ p.name ∷ [] = e ∙ ap (λ b. cond b keys (keys ++ p.name ∷ [])) none in
        ap (λ ns. numbers_of ns ++ booleans (map param_of rest)) one
        ∙ ap (λ ns. ns ++ booleans (map param_of rest)) (map-append (λ (k : NameId). k.0) keys (p.name ∷ []))
        ∙ append_assoc (numbers_of keys) (p.name.0 ∷ []) (booleans (map param_of rest))
    go false e = ap (λ ns. numbers_of ns ++ booleans (map param_of rest)) e

any_last : (n : ℕ) (keys : List NameId) (k : NameId) → list_any (λ (a : NameId). n == a.0) (keys ++ k ∷ []) ≡ true → (list_any (λ (a : NameId). n == a.0) keys ≡ true) ⊎ (n ≡ k.0)
any_last n [] k h = inr ((Decides-eqb n k.0).0 (or_nothing (n == k.0) h))
  where
    or_nothing : (b : Bool) → (b || false) ≡ true → b ≡ true
    or_nothing true h = refl
    or_nothing false h = h
any_last n (a ∷ keys) k h = go (n == a.0) h (any_last n keys k)
  where
    go : (b : Bool) → (b || list_any (λ (a : NameId). n == a.0) (keys ++ k ∷ [])) ≡ true
        → (list_any (λ (a : NameId). n == a.0) (keys ++ k ∷ []) ≡ true → (list_any (λ (a : NameId). n == a.0) keys ≡ true) ⊎ (n ≡ k.0))
        → ((b || list_any (λ (a : NameId). n == a.0) keys) ≡ true) ⊎ (n ≡ k.0)
    go true e later = inl refl
    go false e later = later e

come : (params : List Param) (i : ℕ) (p : Param) (keys new : List NameId) → ComeFrom params i keys → slice_get params i ≡ Some p → list_any (same_name p.name) keys ≡ false → new ≡ with_name p keys → ComeFrom params (i + 1) new
come params i p keys new from at none is = go (is_boolean (param_kind_of p.kind)) is
  where
    later : (n : ℕ) → list_any (λ (k : NameId). n == k.0) keys ≡ true → (j : ℕ) × (q : Param) × (j < i + 1) × (slice_get params j ≡ Some q) × (q.name.0 ≡ n)
    later n h = let f = from n h in (f.0, f.1, omega (arith, f.2), f.3, f.4)

    go : (b : Bool) → new ≡ cond b (cond (list_any (same_name p.name) keys) keys (keys ++ p.name ∷ [])) keys → ComeFrom params (i + 1) new
    go true e n h =
        let one : new ≡ keys ++ p.name ∷ [] = e ∙ ap (λ b. cond b keys (keys ++ p.name ∷ [])) none in
        ⊎_elim (λ before. later n before) (λ same. (i, p, omega arith, at, sym same)) (any_last n keys p.name (sym (ap (λ ns. list_any (λ (k : NameId). n == k.0) ns) one) ∙ h))
    go false e n h = later n (sym (ap (λ ns. list_any (λ (k : NameId). n == k.0) ns) e) ∙ h)

-- one parameter more
pub record Joins (params : List Param) (i : ℕ) (keys new : List NameId) : Type 0 where
  pub names : numbers_of new ++ booleans (map param_of (drop (i + 1) params)) ≡ numbers_of keys ++ booleans (map param_of (drop i params))
  pub from : ComeFrom params (i + 1) new

pub joins : (params : List Param) (i : ℕ) (p : Param) (keys new : List NameId) → AllPairs (λ first second. first.name.0 ≢ second.name.0) params → ComeFrom params i keys → slice_get params i ≡ Some p
    → new ≡ with_name p keys → Joins params i keys new
joins params i p keys new apart from at is =
    let none = fresh params i p keys apart from at in
    let here : get_or params i p ≡ p = get_or_from_slice_get params i p p at in
    let left : drop i params ≡ p ∷ drop (i + 1) params =
    drop-cons params i p (slice_get_within params i p at) ∙ ap (λ x. x ∷ drop (suc i) params) here ∙ ap (λ k. p ∷ drop k params) (sym (add-one i)) in
    record {
      names = joined keys new p (drop (i + 1) params) none is ∙ ap (λ ps. numbers_of keys ++ booleans (map param_of ps)) (sym left);
      from = come params i p keys new from at none is;
    }

pub item_at : {X : Type 0} (xs : List X) (i : ℕ) (d : X) → i < length xs → slice_get xs i ≡ Some (get_or xs i d)
item_at [] i d lt = absurd (omega (arith, lt))
item_at (x ∷ xs) zero d lt = refl
item_at (x ∷ xs) (suc i) d lt = item_at xs i d (omega (arith, lt))
