-- Laws of parameters that are read one behind the other.
use Rattle.std.proofs.Common.{◌≡◌, ◌≢◌, ◌∙◌, sym, ap, subst, refl, ℕ, ◌+◌, ◌<◌, ◌≤◌, ◌==◌, ◌||◌, Bool, true, false, not, zero, suc, append-nil, List, [], ◌∷◌, ◌++◌, length, get_or, map, codes, nat_lt, bytes_eq, None, Err, length-append, arith}
use Rattle.std.specs.Prelude.{flat_map, ⊤}
use Rattle.std.specs.List.{list_any}
use Rattle.std.proofs.lemmas.Bool.{or_parts, eq-eqb, eqb-true}
use Rattle.std.proofs.lemmas.Slice.Eq.{bytes_eq-Decides}
use Rattle.std.proofs.lemmas.List.{map_push, map-append, length-map, get_or_append_left}
use Rattle.std.proofs.lemmas.List.Elements.{All-nil, All-head, All-tail, All-push, All-append}
use Rattle.std.proofs.lemmas.List.Quantifiers.{all_pairs_push}
use Rattle.std.proofs.lemmas.Grind.{flat_map-append}
use Rattle.serde_json.specs.View.{view, items_view}
use Rattle.serde_json.specs.declared.value.Value.{Value}
use Rattle.spec_walk.specs.Pointer.{element}
use Rattle.spec_walk.specs.Event.{Why, BadName, Doubled, TooMany}
use Rattle.spec_walk.specs.Name.{is_name}
use Rattle.spec_walk.specs.Walk.{Walk, Done, Stop, ◌>>>◌, gives}
use Rattle.spec_walk.specs.Spot.{Spot, spot, wrong, unless, needed, text, kind, named, elements, each}
use Rattle.spec_walk.proofs.WalkLaws.{gives-next}
use Rattle.spec_expressions.specs.Expression.{Expr}
use Rattle.spec_features.specs.Features as spec
use Rattle.spec_features.specs.Features.{param_limit}
use Rattle.spec_features.specs.Kind.{kind_named}
use Rattle.spec_features.specs.Walk.{Constrained, param_name, constraints_of, param}
use Rattle.mrs_names.specs.Texts.{IsExtended, AreDistinct, place_of}
use Rattle.mrs_names.proofs.PlaceLaws.{IsExtended-refl, IsExtended-trans}
use Rattle.mrs_arena.specs.Placed.{text_of}
use Rattle.mrs_arena.specs.Expressions.{expr_at}
use Rattle.mrs_arena.specs.declared.expr_id.ExprId.{ExprId}
use Rattle.mrs_walk.specs.Gives.{Gives, Fails, Ends}
use Rattle.mrs_walk.specs.declared.fault.ReadFault.{ReadFault}
use Rattle.mrs_walk.specs.declared.fault.ReadFault.TheVariants.{Schema, NoMemory}
use Rattle.mrs_walk.proofs.AnswerLaws.{Fails-then, Fails-same}
use Rattle.mrs_walk.proofs.EachLaws.{EachRead, EachRead-none, EachRead-next, EachRead-fails, EachRead-all}
use Rattle.features_reader.specs.declared.features.Param.{Param}
use Rattle.schema_draft.specs.Drafted.{Drafted, counts}
use Rattle.expression_reader.specs.ExprsRead.{Grows, AreRead}
use Rattle.features_reader.specs.FeatureViews.{param_kind_of}
use Rattle.features_reader.specs.FeaturesRead.{param_in, texts_of, numbers_of, AreHeldParams, names_before, IsParamRead, AreParams, AreParamsRead}
use Rattle.schema_draft.proofs.TakenLaws.{bytes_eq-turned, same_number, is_number}
use Rattle.expression_reader.proofs.ExprsLaws.{Grows-none, Grows-trans, maps-more}

-- ---- names that are taken

-- a text is among those of parameters where its number is among theirs
pub taken_by_number : (text : List ℕ) (names : List (List ℕ)) (params : List Param) → AreDistinct names → AreHeldParams names params
    → list_any (λ name. bytes_eq name text) (texts_of names params) ≡ list_any (λ param. is_number (place_of text names) param.name.0) params
taken_by_number text names [] distinct held = refl
taken_by_number text names (p ∷ params) distinct held =
    ap (λ b. b || list_any (λ name. bytes_eq name text) (texts_of names params)) (bytes_eq-turned (text_of names p.name.0) text ∙ same_number text names p.name.0 distinct (All-head (λ (q : Param). q.name.0 < length names) p params held))
    ∙ ap (λ b. is_number (place_of text names) p.name.0 || b) (taken_by_number text names params distinct (All-tail (λ (q : Param). q.name.0 < length names) p params held))

pub none_taken : (params : List Param) → list_any (λ param. is_number None param.name.0) params ≡ false
none_taken [] = refl
none_taken (p ∷ params) = none_taken params

-- a name whose text is not taken has a number that is not
pub free_number : (names : List (List ℕ)) (params : List Param) (id : ℕ) (text : List ℕ) → text_of names id ≡ text → list_any (λ name. bytes_eq name text) (texts_of names params) ≡ false
    → list_any (λ param. param.name.0 == id) params ≡ false
free_number names [] id text is free = refl
free_number names (p ∷ params) id text is free =
    let apart = or_parts (bytes_eq (text_of names p.name.0) text) (list_any (λ name. bytes_eq name text) (texts_of names params)) free in
    go (p.name.0 == id) refl apart.0 (free_number names params id text is apart.1)
  where
    go : (b : Bool) → (p.name.0 == id) ≡ b → bytes_eq (text_of names p.name.0) text ≡ false → list_any (λ (param : Param). param.name.0 == id) params ≡ false → (b || list_any (λ (param : Param). param.name.0 == id) params) ≡ false
    go false e differs rest = rest
    go true e differs rest = absurd (let same = (bytes_eq-Decides (text_of names p.name.0) text).1 (ap (text_of names) (eqb-true p.name.0 id e) ∙ is) in cc)

-- ---- names that are held keep their texts

kept_text : {old new : List (List ℕ)} → IsExtended old new → (k : ℕ) → k < length old → text_of new k ≡ text_of old k
kept_text {old} x k within = ap (λ ns. text_of ns k) x.whole ∙ get_or_append_left old x.more [] k within

longer : {old new : List (List ℕ)} → IsExtended old new → length old ≤ length new
longer {old} x = omega (arith, ap length x.whole, length-append old x.more)

pub kept_texts : {old new : List (List ℕ)} → IsExtended old new → (params : List Param) → AreHeldParams old params → texts_of new params ≡ texts_of old params
kept_texts {old} {new} x [] held = refl
kept_texts {old} {new} x (p ∷ params) held =
    ap (λ t. t ∷ texts_of new params) (kept_text x p.name.0 (All-head (λ (q : Param). q.name.0 < length old) p params held))
    ∙ ap (λ ts. text_of old p.name.0 ∷ ts) (kept_texts x params (All-tail (λ (q : Param). q.name.0 < length old) p params held))

pub kept_params : {old new : List (List ℕ)} → IsExtended old new → (params : List Param) → AreHeldParams old params → map (param_in new) params ≡ map (param_in old) params
kept_params {old} {new} x [] held = refl
kept_params {old} {new} x (p ∷ params) held =
    ap (λ t. (let q : spec.Param = record { name = t; kind = param_kind_of p.kind } in q) ∷ map (param_in new) params) (kept_text x p.name.0 (All-head (λ (q : Param). q.name.0 < length old) p params held))
    ∙ ap (λ ps. param_in old p ∷ ps) (kept_params x params (All-tail (λ (q : Param). q.name.0 < length old) p params held))

kept_held : {old new : List (List ℕ)} → IsExtended old new → (params : List Param) → AreHeldParams old params → AreHeldParams new params
kept_held x params held k d h = omega (arith, held k d h, longer x)

pub AreParams-later : {old new : List (List ℕ)} {params : List Param} → IsExtended old new → AreParams old params → AreParams new params
AreParams-later {old} {new} {params} x a = record { held = kept_held x params a.held; few = a.few; distinct = a.distinct }

-- ---- the walk of a name

before_any : (before : List Constrained) (s : List ℕ) → list_any (λ (p : Constrained). bytes_eq p.0.name s) before ≡ list_any (λ name. bytes_eq name s) (names_before before)
before_any [] s = refl
before_any (p ∷ before) s = ap (λ b. bytes_eq p.0.name s || b) (before_any before s)

-- a text that is a name, and is taken or not
pub param_name_is : (before : List Constrained) (here place : Spot) (s : List ℕ) (texts : List (List ℕ)) (taken : Bool) → names_before before ≡ texts → needed (codes "name") here ≡ Done place → text place ≡ Done s → is_name s ≡ true
    → list_any (λ name. bytes_eq name s) texts ≡ taken → param_name before here ≡ unless (not taken) place Doubled >>> λ _. Done s
param_name_is before here place s texts taken same there is good any =
    let checked : Spot → List ℕ → Walk (List ℕ) = λ p t. unless (is_name t) p BadName >>> λ _. unless (not (list_any (λ (q : Constrained). bytes_eq q.0.name t) before)) p Doubled >>> λ _. Done t in
    ap (λ (w : Walk Spot). w >>> λ p. text p >>> checked p) there
    ∙ ap (λ (w : Walk (List ℕ)). w >>> checked place) is
    ∙ ap (λ b. unless b place BadName >>> λ _. unless (not (list_any (λ (q : Constrained). bytes_eq q.0.name s) before)) place Doubled >>> λ _. Done s) good
    ∙ ap (λ b. unless (not b) place Doubled >>> λ _. Done s) (before_any before s ∙ ap (list_any (λ name. bytes_eq name s)) same ∙ any)

-- a fault that is made is the walk
pub made_fault : {T A : Type 0} (f : ReadFault) (here : Spot) (why : Why) (w : Walk A) (stands : T → A) → Gives {T = ⊤} {A = ⊤} (Err f) (wrong here why) (λ x. x) → w ≡ wrong here why → Gives (Err f) w stands
made_fault (Schema f) here why w stands made is = is ∙ ap (λ e. Stop e) (let same = made in cc)
made_fault NoMemory here why w stands made is = tt

-- ---- the walk of a parameter

abbrev constrained : spec.ParamKind → List ℕ → List Expr → Constrained
constrained k name own = (record { name = name; kind = k }, own)

-- a parameter whose kind and name are read, where there is room
param_is : (before : List Constrained) (here : Spot) (k : spec.ParamKind) (s : List ℕ) (n : ℕ) → kind kind_named here ≡ Done k → param_name before here ≡ Done s → length before ≡ n → unless (nat_lt n param_limit) here TooMany ≡ Done tt
    → param before here ≡ named here s >>> λ name. constraints_of k here >>> λ own. Done (constrained k name own)
param_is before here k s n kind_is name_is count room =
    let rest : spec.ParamKind → List ℕ → Walk Constrained = λ k name. unless (nat_lt (length before) param_limit) here TooMany >>> λ _. constraints_of k here >>> λ own. Done (constrained k name own) in
    ap (λ (w : Walk spec.ParamKind). w >>> λ k. param_name before here >>> named here >>> rest k) kind_is
    ∙ ap (λ (w : Walk (List ℕ)). w >>> named here >>> rest k) name_is
    ∙ ap (λ (m : ℕ). named here s >>> λ name. unless (nat_lt m param_limit) here TooMany >>> λ _. constraints_of k here >>> λ own. Done (constrained k name own)) count
    ∙ ap (λ (w : Walk ⊤). named here s >>> λ name. w >>> λ _. constraints_of k here >>> λ own. Done (constrained k name own)) room

as_many : (before : List Constrained) (names : List (List ℕ)) (params : List Param) → names_before before ≡ texts_of names params → length before ≡ length params
as_many before names params same = sym (length-map before (λ (p : Constrained). p.0.name)) ∙ ap length same ∙ length-map params (λ (p : Param). text_of names p.name.0)

-- what is known of a parameter once its name is put
pub record IsNamed (here : Spot) (before : List Constrained) (old mid : Drafted) (params : List Param) (k : spec.ParamKind) (s : List ℕ) (id : ℕ) : Type 0 where
  pub same : names_before before ≡ texts_of old.names params
  pub kind_is : kind kind_named here ≡ Done k
  pub name_is : param_name before here ≡ Done s
  pub room : unless (nat_lt (length params) param_limit) here TooMany ≡ Done tt
  pub put : Ends (named here s) (counts old) (counts mid) (λ t. (id < length mid.names) × (text_of mid.names id ≡ t))

named_walk : {here : Spot} {before : List Constrained} {old mid : Drafted} {params : List Param} {k : spec.ParamKind} {s : List ℕ} {id : ℕ} → (i : IsNamed here before old mid params k s id)
    → gives (param before here) (counts old) ≡ gives (constraints_of k here >>> λ own. Done (constrained k i.put.value own)) (counts mid)
named_walk {here} {before} {old} {mid} {params} {k} {s} {id} i =
    ap (λ w. gives w (counts old)) (param_is before here k s (length params) i.kind_is i.name_is (as_many before old.names params i.same) i.room)
    ∙ gives-next (named here s) (λ name. constraints_of k here >>> λ own. Done (constrained k name own)) (counts old) (counts mid) i.put.value i.put.walked

pub param_fails : (f : ReadFault) {here : Spot} {before : List Constrained} {old mid : Drafted} {params : List Param} {k : spec.ParamKind} {s : List ℕ} {id : ℕ} → IsNamed here before old mid params k s id
    → Fails f (gives (constraints_of k here) (counts mid)) → Fails f (gives (param before here) (counts old))
param_fails f {here} {mid = mid} {k = k} i h = Fails-same f _ _ (named_walk i) (Fails-then f (constraints_of k here) (λ own. Done (constrained k i.put.value own)) (counts mid) h)

-- names take no part in what was put
AreRead-named : {old mid new : Drafted} {es : List Expr} {ids : List ℕ} → mid.exprs ≡ old.exprs → mid.parts ≡ old.parts → AreRead mid new es ids → AreRead old new es ids
AreRead-named {old} {mid} {new} exprs parts r = record {
  grows = record { more = r.grows.more; exprs = r.grows.exprs ∙ ap (λ es. es ++ r.grows.more) exprs; free = omega (arith, r.grows.free, ap length exprs, ap length parts) };
  within = r.within;
  stand = r.stand;
}

pub param_returns : {here : Spot} {before : List Constrained} {old mid new : Drafted} {params : List Param} {s : List ℕ} (x : Param) (own : List ExprId) → IsNamed here before old mid params (param_kind_of x.kind) s x.name.0
    → mid.exprs ≡ old.exprs → mid.parts ≡ old.parts → IsExtended mid.names new.names
    → Ends (constraints_of (param_kind_of x.kind) here) (counts mid) (counts new) (λ es. AreRead mid new es (numbers_of own)) → Ends (param before here) (counts old) (counts new) (λ p. IsParamRead old new p x own)
param_returns {here} {before} {old} {mid} {new} {params} {s} x own i exprs parts kept e = record {
  value = constrained (param_kind_of x.kind) i.put.value e.value;
  walked = named_walk i ∙ gives-next (constraints_of (param_kind_of x.kind) here) (λ es. Done (constrained (param_kind_of x.kind) i.put.value es)) (counts mid) (counts new) e.value e.walked;
  stands = record {
    param_is = ap (λ (t : List ℕ). let q : spec.Param = record { name = t; kind = param_kind_of x.kind } in q) (kept_text kept x.name.0 i.put.stands.0 ∙ i.put.stands.1);
    held = omega (arith, i.put.stands.0, longer kept);
    own_are = AreRead-named exprs parts e.stands;
  };
}

-- ---- the loop

pub AreRead-none : (d : Drafted) → AreRead d d [] []
AreRead-none d = record { grows = Grows-none d; within = All-nil (λ id. id < length d.exprs); stand = refl }

pub AreRead-more : {old mid new : Drafted} {es fs : List Expr} {ids more : List ℕ} → AreRead old mid es ids → AreRead mid new fs more → AreRead old new (es ++ fs) (ids ++ more)
AreRead-more {old} {mid} {new} {es} {fs} {ids} {more} r s =
    let further : length mid.exprs ≤ length new.exprs = omega (arith, ap length s.grows.exprs, length-append mid.exprs s.grows.more) in record {
      grows = subst (Grows old new) (sym (length-append ids more)) (Grows-trans r.grows s.grows);
      within = All-append (λ id. id < length new.exprs) ids more (λ i d h. omega (arith, r.within i d h, further)) s.within;
      stand =
          map-append (expr_at new.exprs) ids more ∙ ap (λ xs. map (expr_at new.exprs) ids ++ xs) s.stand
          ∙ ap (λ xs. map (expr_at xs) ids ++ fs) s.grows.exprs
          ∙ ap (λ front. front ++ fs) (maps-more mid.exprs s.grows.more ids r.within ∙ r.stand);
    }

-- so many parameters are read
pub record ParamsRead (at : List ℕ) (old now : Drafted) (params : List Param) (all : List ExprId) (i : ℕ) (vs : List Value) : Type 0 where
  pub found : List Constrained
  pub each : EachRead param at found (counts old) (counts now) i vs
  pub read : AreParamsRead old now found params all
  pub nodes : now.nodes ≡ old.nodes
  pub kept : IsExtended old.names now.names

pub ParamsRead-none : (at : List ℕ) (old : Drafted) (params : List Param) (all : List ExprId) (vs : List Value) → params ≡ [] → all ≡ [] → ParamsRead at old old params all 0 vs
ParamsRead-none at old params all vs no_params none =
    subst (λ (ps : List Param). ParamsRead at old old ps all 0 vs) (sym no_params) (subst (λ (ids : List ExprId). ParamsRead at old old [] ids 0 vs) (sym none) (record {
      found = [];
      each = EachRead-none param at (counts old) vs;
      read = record {
        params_are = refl;
        sound = record { held = All-nil (λ (p : Param). p.name.0 < length old.names); few = omega arith; distinct = λ i j d low high. absurd (omega arith) };
        all_are = AreRead-none old;
      };
      nodes = refl;
      kept = IsExtended-refl old.names;
    }))

-- the names of those that were read
pub names_read : {old now : Drafted} {found : List Constrained} {params : List Param} {all : List ExprId} → AreParamsRead old now found params all → names_before found ≡ texts_of now.names params
names_read {old} {now} {found} {params} r = names_of_all found ∙ ap (map (λ (p : spec.Param). p.name)) (sym r.params_are) ∙ names_of_params params
  where
    names_of_all : (found : List Constrained) → names_before found ≡ map (λ (p : spec.Param). p.name) (map (λ (p : Constrained). p.0) found)
    names_of_all [] = refl
    names_of_all (p ∷ found) = ap (λ ns. p.0.name ∷ ns) (names_of_all found)

    names_of_params : (params : List Param) → map (λ (p : spec.Param). p.name) (map (param_in now.names) params) ≡ texts_of now.names params
    names_of_params [] = refl
    names_of_params (p ∷ params) = ap (λ ns. text_of now.names p.name.0 ∷ ns) (names_of_params params)

differs : (params : List Param) (id : ℕ) → list_any (λ param. param.name.0 == id) params ≡ false → (k : ℕ) (d : Param) → k < length params → (get_or params k d).name.0 ≢ id
differs [] id free k d within same = absurd (omega arith)
differs (p ∷ params) id free zero d within same = absurd (let here = eq-eqb p.name.0 id same in let apart = (or_parts (p.name.0 == id) (list_any (λ (param : Param). param.name.0 == id) params) free).0 in cc)
differs (p ∷ params) id free (suc k) d within same = differs params id (or_parts (p.name.0 == id) (list_any (λ (param : Param). param.name.0 == id) params) free).1 k d (omega arith) same

pub AreParams-next : {now new : List (List ℕ)} {params : List Param} (x : Param) → AreParams now params → IsExtended now new → x.name.0 < length new → list_any (λ param. param.name.0 == x.name.0) params ≡ false → length params < param_limit
    → AreParams new (params ++ x ∷ [])
AreParams-next {now} {new} {params} x a kept held free room = record {
  held = All-push (λ (p : Param). p.name.0 < length new) params x (kept_held kept params a.held) held;
  few = omega (arith, room, length-append params (x ∷ []));
  distinct = all_pairs_push (λ first second. first.name.0 ≢ second.name.0) params x a.distinct (λ j d low. differs params x.name.0 free j d low);
}

abbrev next_found : Constrained → List Constrained → List Constrained
next_found p found = found ++ p ∷ []

pub ParamsRead-next : {at : List ℕ} {old now : Drafted} {params : List Param} {all : List ExprId} {i : ℕ} {vs : List Value} → (r : ParamsRead at old now params all i vs) → (v : Value) → i < length vs → v ≡ get_or vs i v → (here : Spot) → here ≡ spot (element at i) (view v)
    → (new : Drafted) (x : Param) (own : List ExprId) → Ends (param r.found here) (counts now) (counts new) (λ p. IsParamRead now new p x own) → list_any (λ param. param.name.0 == x.name.0) params ≡ false → length params < param_limit
    → new.nodes ≡ now.nodes → IsExtended now.names new.names → (later : List Param) → later ≡ params ++ x ∷ [] → (further : List ExprId) → further ≡ all ++ own → ParamsRead at old new later further (i + 1) vs
ParamsRead-next {at} {old} {now} {params} {all} {i} {vs} r v within is here at_it new x own e free room same kept later pushed further extended =
    subst (λ (ps : List Param). ParamsRead at old new ps further (i + 1) vs) (sym pushed) (subst (λ (ids : List ExprId). ParamsRead at old new (params ++ x ∷ []) ids (i + 1) vs) (sym extended) (record {
      found = r.found ++ e.value ∷ [];
      each = EachRead-next r.each v within is here at_it e.value (counts new) e.walked;
      read = record {
        params_are =
            map_push (param_in new.names) params x ∙ ap (λ p. map (param_in new.names) params ++ p ∷ []) e.stands.param_is
            ∙ ap (λ ps. ps ++ e.value.0 ∷ []) (kept_params kept params r.read.sound.held ∙ r.read.params_are)
            ∙ sym (map_push (λ (p : Constrained). p.0) r.found e.value);
        sound = AreParams-next x r.read.sound kept e.stands.held free room;
        all_are = all_more (flat_map-push r.found e.value) (map-append (λ (id : ExprId). id.0) all own) (AreRead-more r.read.all_are e.stands.own_are);
      };
      nodes = same ∙ r.nodes;
      kept = IsExtended-trans old.names now.names new.names r.kept kept;
    }))
  where
    flat_map-push : (found : List Constrained) (p : Constrained) → flat_map (λ (q : Constrained). q.1) (found ++ p ∷ []) ≡ flat_map (λ (q : Constrained). q.1) found ++ p.1
    flat_map-push found p = flat_map-append (λ (q : Constrained). q.1) found (p ∷ []) ∙ ap (λ es. flat_map (λ (q : Constrained). q.1) found ++ es) (append-nil p.1)

    all_more : {es fs : List Expr} {ids ks : List ℕ} → fs ≡ es → ks ≡ ids → AreRead old new es ids → AreRead old new fs ks
    all_more {es} {fs} {ids} {ks} a b read = subst (λ (xs : List Expr). AreRead old new xs ks) (sym a) (subst (λ (ns : List ℕ). AreRead old new es ns) (sym b) read)

-- ---- an array of parameters

abbrev pub params_walk : Spot → Walk (List Constrained)
params_walk list = elements list >>> each param list.at []

params_are : (list : Spot) (vs : List Value) → elements list ≡ Done (items_view vs) → params_walk list ≡ each param list.at [] (items_view vs)
params_are list vs is = ap (λ w. w >>> each param list.at []) is

pub params_fail : (f : ReadFault) (list : Spot) {old now : Drafted} {params : List Param} {all : List ExprId} {i : ℕ} {vs : List Value} → elements list ≡ Done (items_view vs) → (r : ParamsRead list.at old now params all i vs) → (v : Value) → i < length vs → v ≡ get_or vs i v
    → (place : Spot) → place ≡ spot (element list.at i) (view v) → Fails f (gives (param r.found place) (counts now)) → Fails f (gives (params_walk list) (counts old))
params_fail f list {old} {vs = vs} is r v within at_i place at_it h = Fails-same f _ _ (ap (λ w. gives w (counts old)) (params_are list vs is)) (EachRead-fails r.each v within at_i place at_it f h)

pub params_end : (list : Spot) {old now : Drafted} {params : List Param} {all : List ExprId} {i : ℕ} {vs : List Value} → elements list ≡ Done (items_view vs) → ParamsRead list.at old now params all i vs → length vs ≤ i
    → Ends (params_walk list) (counts old) (counts now) (λ found. AreParamsRead old now found params all)
params_end list {old} {vs = vs} is r past = record {
  value = r.found;
  walked = ap (λ w. gives w (counts old)) (params_are list vs is) ∙ EachRead-all r.each past;
  stands = r.read;
}
