-- Parameters that are kept one after the other, each name once.
use Rattle.std.proofs.Common.{◌≡◌, ◌≢◌, ◌∙◌, refl, sym, ap, subst, ℕ, ◌+◌, ◌<◌, ◌≤◌, ◌==◌, ◌||◌, List, [], ◌∷◌, ◌++◌, length, get_or, drop, map, true, false, append-nil, All, AllPairs, length-append, bytes_eq, arith}
use Rattle.std.specs.Prelude.{sum_by}
use Rattle.std.specs.List.{list_any, AllByRecursion}
use Rattle.std.proofs.lemmas.List.{map_push, length-map, get_or-map, at_drop_more, at_drop_all}
use Rattle.std.proofs.lemmas.List.Quantifiers.{all_pairs_push}
use Rattle.std.proofs.lemmas.List.Elements.{All-nil, All-head, All-tail}
use Rattle.spec_names.specs.Distinct.{distinct, distinct_by}
use Rattle.spec_features.specs.Features as spec
use Rattle.spec_features.proofs.Distinct.{distinct_alike, distinct_held}
use Rattle.mrs_names.specs.Texts.{AreNames}
use Rattle.mrs_arena.specs.Placed.{text_of}
use Rattle.schema_draft.proofs.TakenLaws.{same_texts}
use Rattle.spec_features.specs.Features.{EachName, booleans_alone, with_names, param_limit}
use Rattle.spec_features.specs.Theory.{parts}
use Rattle.mrs_arena.specs.Expressions.{expr_at}
use Rattle.mrs_names.specs.declared.name_id.NameId.{NameId}
use Rattle.features_reader.specs.declared.features.Param.{Param}
use Rattle.features_reader.specs.declared.features.ParamKind.TheVariants.{Boolean}
use Rattle.features_reader.specs.declared.features.Features.{Features}
use Rattle.features_reader.specs.FeatureViews.{param_of, features_of, AreFeatures, AreNamed}
use Rattle.features_reader.proofs.OnceLaws.{is_kept, behind, behind-kept, behind-new, behind-none, differs_from_kept}

abbrev pub names_of : List Param → List ℕ
names_of params = map (λ param. param.name.0) params

abbrev pub numbers_of : List NameId → List ℕ
numbers_of list = map (λ name. name.0) list

-- the parameters of the names up to one
pub record AreKept (params : List Param) (i : ℕ) (list : List NameId) : Type 0 where
  pub few : length params ≤ i
  pub rest : behind (names_of params) (numbers_of (drop i list)) ≡ distinct_by ◌==◌ (numbers_of list)
  pub booleans : map param_of params ≡ (booleans_alone (names_of params)).params
  pub distinct : AllPairs (λ first second. first.name.0 ≢ second.name.0) params

pub AreKept-none : (params : List Param) (list : List NameId) → params ≡ [] → AreKept params 0 list
AreKept-none params list none = subst (λ (ps : List Param). AreKept ps 0 list) (sym none) (record { few = omega arith; rest = behind-none (numbers_of list); booleans = refl; distinct = λ i j d low high. absurd (omega arith) })

is_kept-names : (params : List Param) (n : ℕ) → is_kept (names_of params) n ≡ list_any (λ param. param.name.0 == n) params
is_kept-names [] n = refl
is_kept-names (p ∷ params) n = ap (λ b. (p.name.0 == n) || b) (is_kept-names params n)

-- the name of a place
abbrev pub name_at : List NameId → ℕ → NameId
name_at list i = get_or list i (record { 0 = 0 })

rest-here : (params : List Param) (i : ℕ) (list : List NameId) → i < length list → behind (names_of params) (numbers_of (drop i list)) ≡ behind (names_of params) ((name_at list i).0 ∷ numbers_of (drop (i + 1) list))
rest-here params i list within = at_drop_more (λ xs. behind (names_of params) (numbers_of xs)) list i (record { 0 = 0 }) within

-- a name that is kept already
pub AreKept-held : {params : List Param} {i : ℕ} {list : List NameId} → AreKept params i list → i < length list → (held : List Param) → held ≡ params → list_any (λ param. param.name.0 == (name_at list i).0) held ≡ true → AreKept params (i + 1) list
AreKept-held {params} {i} {list} k within held same is = record {
  few = omega (arith, k.few);
  rest = sym (behind-kept (names_of params) (name_at list i).0 (numbers_of (drop (i + 1) list)) (is_kept-names params (name_at list i).0 ∙ ap (list_any (λ param. param.name.0 == (name_at list i).0)) (sym same) ∙ is)) ∙ sym (rest-here params i list within) ∙ k.rest;
  booleans = k.booleans;
  distinct = k.distinct;
}

-- and one that is not
abbrev pub boolean : NameId → Param
boolean name = record { name = name; kind = Boolean }

pub AreKept-new : {params : List Param} {i : ℕ} {list : List NameId} → AreKept params i list → i < length list → (held : List Param) → held ≡ params → list_any (λ param. param.name.0 == (name_at list i).0) held ≡ false
    → (new : List Param) → new ≡ params ++ boolean (name_at list i) ∷ [] → AreKept new (i + 1) list
AreKept-new {params} {i} {list} k within held same is new put =
    let name = name_at list i in
    let free : is_kept (names_of params) name.0 ≡ false = is_kept-names params name.0 ∙ ap (list_any (λ param. param.name.0 == name.0)) (sym same) ∙ is in
    subst (λ (ps : List Param). AreKept ps (i + 1) list) (sym put) (record {
      few = omega (arith, k.few, length-append params (boolean name ∷ []));
      rest =
          ap (λ ns. behind ns (numbers_of (drop (i + 1) list))) (map_push (λ (param : Param). param.name.0) params (boolean name))
          ∙ sym (behind-new (names_of params) name.0 (numbers_of (drop (i + 1) list)) free) ∙ sym (rest-here params i list within) ∙ k.rest;
      booleans =
          map_push param_of params (boolean name) ∙ ap (λ ps. ps ++ param_of (boolean name) ∷ []) k.booleans
          ∙ sym (ap (λ ns. (booleans_alone ns).params) (map_push (λ (param : Param). param.name.0) params (boolean name)) ∙ map_push (λ n. param_of (boolean (record { 0 = n }))) (names_of params) name.0);
      distinct = all_pairs_push (λ first second. first.name.0 ≢ second.name.0) params (boolean name) k.distinct
          (λ j d low alike. differs_from_kept (names_of params) name.0 free j d.name.0 (omega (arith, length-map params (λ (param : Param). param.name.0))) (get_or-map (λ param. param.name.0) params j d d.name.0 low ∙ alike));
    })

-- in the end they are those of the names, each once
kept_all : {params : List Param} {i : ℕ} {list : List NameId} → AreKept params i list → length list ≤ i → map param_of params ≡ (booleans_alone (distinct_by ◌==◌ (numbers_of list))).params
kept_all {params} {i} {list} k past =
    k.booleans ∙ ap (λ ns. (booleans_alone ns).params) (sym (at_drop_all (λ xs. behind (names_of params) (numbers_of xs)) list i past ∙ append-nil (names_of params)) ∙ k.rest)

-- so they are features, with no constraint
pub record AreMade (f : Features) (list : List NameId) : Type 0 where
  pub names : features_of f ≡ booleans_alone (distinct_by ◌==◌ (numbers_of list))
  pub named : AreNamed list f
  pub sound : AreFeatures f

-- ---- the same with the texts of names

held_numbers : (texts : List (List ℕ)) (list : List NameId) → All (λ name. name.0 < length texts) list → AllByRecursion (λ n. n < length texts) (numbers_of list)
held_numbers texts [] held = tt
held_numbers texts (name ∷ list) held = (All-head (λ (n : NameId). n.0 < length texts) name list held, held_numbers texts list (All-tail (λ (n : NameId). n.0 < length texts) name list held))

texts_of_numbers : (texts : List (List ℕ)) (list : List NameId) → map (text_of texts) (numbers_of list) ≡ map (λ name. text_of texts name.0) list
texts_of_numbers texts [] = refl
texts_of_numbers texts (name ∷ list) = ap (λ ts. text_of texts name.0 ∷ ts) (texts_of_numbers texts list)

alone_named : (text : ℕ → List ℕ) (ns : List ℕ) → with_names text (booleans_alone ns) ≡ booleans_alone (map text ns)
alone_named text ns = ap (λ (ps : List spec.Param). let f : spec.Features = record { params = ps; constraints = [] } in f) (each_named ns)
  where
    each_named : (ns : List ℕ) → (with_names text (booleans_alone ns)).params ≡ (booleans_alone (map text ns)).params
    each_named [] = refl
    each_named (n ∷ ns) = ap (λ (ps : List spec.Param). (let p : spec.Param = record { name = text n; kind = spec.ABoolean } in p) ∷ ps) (each_named ns)

alone_held : (P : ℕ → Type 0) (f : Features) (ns : List ℕ) → features_of f ≡ booleans_alone ns → AllByRecursion P ns → EachName P (features_of f)
alone_held P f ns is held = subst (EachName P) (sym is) (record { params = each_held ns held; constraints = tt })
  where
    each_held : (ns : List ℕ) → AllByRecursion P ns → AllByRecursion (λ (p : spec.ParamOf ℕ). P p.name) (booleans_alone ns).params
    each_held [] held = tt
    each_held (n ∷ ns) held = (held.0, each_held ns held.1)

features_named : (f : Features) (list : List NameId) → features_of f ≡ booleans_alone (distinct_by ◌==◌ (numbers_of list)) → AreNamed list f
features_named f list is texts are held =
    let ns = distinct_by ◌==◌ (numbers_of list) in
    let all = held_numbers texts list held in (
      ap (with_names (text_of texts)) is ∙ alone_named (text_of texts) ns
          ∙ ap booleans_alone (distinct_alike ◌==◌ bytes_eq (text_of texts) (λ n. n < length texts) (same_texts texts are) (numbers_of list) all ∙ ap distinct (texts_of_numbers texts list)),
      alone_held (λ n. n < length texts) f ns is (distinct_held ◌==◌ (λ n. n < length texts) (numbers_of list) all),
    )

pub features_made : (f : Features) {i : ℕ} {list : List NameId} → AreKept f.params.items i list → length list ≤ i → f.constraints.items ≡ [] → i ≤ param_limit → AreMade f list
features_made f {i} {list} k past none few =
    let made : features_of f ≡ booleans_alone (distinct_by ◌==◌ (numbers_of list)) = ap (λ ps. record { params = ps; constraints = map (λ id. expr_at f.arena.exprs id.0) f.constraints.items }) (kept_all k past) ∙ ap (λ cs. record { params = (booleans_alone (distinct_by ◌==◌ (numbers_of list))).params; constraints = map (λ id. expr_at f.arena.exprs id.0) cs }) none in record {
      names = made;
      named = features_named f list made;
      sound = record {
        few = omega (arith, k.few);
        distinct = k.distinct;
        few_constraints = omega (arith, ap length none);
        within = subst (All (λ id. id.0 < length f.arena.exprs)) (sym none) (All-nil (λ id. id.0 < length f.arena.exprs));
        few_parts = omega (arith, ap (λ ids. sum_by parts (map (λ id. expr_at f.arena.exprs id.0) ids)) none);
      };
    }
