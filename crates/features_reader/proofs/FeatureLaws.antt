-- What was put for a Features document is features of its arena.
use Rattle.std.proofs.Common.{◌≡◌, ◌∙◌, refl, sym, ap, subst, ℕ, ◌<◌, ◌≤◌, List, [], ◌∷◌, ◌++◌, length, map, All, Ok, Err, codes, arith}
use Rattle.std.specs.Prelude.{sum_by, flat_map}
use Rattle.std.specs.List.{AllByRecursion}
use Rattle.std.proofs.lemmas.List.{length-map, map-append}
use Rattle.std.proofs.lemmas.List.Elements.{All-head, All-tail}
use Rattle.serde_json.specs.Data.{Data}
use Rattle.spec_walk.specs.Limits.{Counts, from_held, expression_limit}
use Rattle.spec_walk.specs.Walk.{Walk, Done, ◌>>>◌, gives}
use Rattle.spec_walk.specs.Spot.{Spot, root, an_object, needed}
use Rattle.spec_walk.proofs.WalkLaws.{gives-next}
use Rattle.spec_walk.proofs.FirstFaultLaws.{answers-gives}
use Rattle.spec_expressions.specs.Expression.{Expr, ExprOf}
use Rattle.spec_expressions.specs.Expression as expression
use Rattle.spec_features.specs.Features as spec
use Rattle.spec_features.specs.Features.{ParamOf, FeaturesOf, EachName}
use Rattle.spec_features.specs.Theory.{parts}
use Rattle.spec_features.specs.Walk.{Constrained, constraints, features}
use Rattle.spec_features.proofs.PartLaws.{parts_are_counted, all_parts-named, parts_enough}
use Rattle.mrs_names.specs.Texts.{IsExtended}
use Rattle.mrs_arena.specs.Placed.{text_of, expr_of, AreHeldExprs}
use Rattle.mrs_arena.specs.Expressions.{expr_at}
use Rattle.mrs_arena.specs.declared.expr_id.ExprId.{ExprId}
use Rattle.mrs_arena.proofs.TextLaws.{expr_of-at, held-at}
use Rattle.mrs_walk.specs.Gives.{Fails, Ends}
use Rattle.mrs_walk.specs.declared.fault.ReadFault.{ReadFault}
use Rattle.mrs_walk.specs.declared.fault.ReadFault.TheVariants.{Schema, NoMemory}
use Rattle.features_reader.specs.declared.features.Param.{Param}
use Rattle.features_reader.specs.declared.features.Features.{Features}
use Rattle.schema_draft.specs.Drafted.{Drafted, counts}
use Rattle.expression_reader.specs.ExprsRead.{AreRead}
use Rattle.features_reader.specs.FeatureViews.{param_of, features_of, features_in}
use Rattle.features_reader.specs.FeaturesRead.{param_in, numbers_of, AreHeldParams, AreParamsRead, IsDocumentRead, with_expressions, AreFeaturesOf, ReadsFeatures}
use Rattle.expression_reader.proofs.ExprsLaws.{All-numbers}
use Rattle.features_reader.proofs.ParamReadLaws.{params_walk, kept_params, AreParams-later, AreRead-more}

-- ---- a document

abbrev together : List Constrained → List Expr → spec.Features
together found own = record { params = map (λ (p : Constrained). p.0) found; constraints = flat_map (λ (p : Constrained). p.1) found ++ own }

document_is : (here list : Spot) → an_object here ≡ Done tt → needed (codes "parameters") here ≡ Done list → features here ≡ params_walk list >>> λ found. constraints here >>> λ own. Done (together found own)
document_is here list is_one there =
    let rest : Spot → Walk spec.Features = λ l. params_walk l >>> λ found. constraints here >>> λ own. Done (together found own) in
    ap (λ (w : Walk Unit). w >>> λ _. needed (codes "parameters") here >>> rest) is_one ∙ ap (λ (w : Walk Spot). w >>> rest) there

document_goes_on : (here list : Spot) (old mid : Counts) (found : List Constrained) → an_object here ≡ Done tt → needed (codes "parameters") here ≡ Done list → gives (params_walk list) old ≡ Ok (found, mid)
    → gives (features here) old ≡ gives (constraints here >>> λ own. Done (together found own)) mid
document_goes_on here list old mid found is_one there walked =
    ap (λ w. gives w old) (document_is here list is_one there) ∙ gives-next (params_walk list) (λ found. constraints here >>> λ own. Done (together found own)) old mid found walked

pub document_returns : (here list : Spot) {old mid new : Drafted} {params : List Param} {all : List ExprId} (own whole : List ExprId) → an_object here ≡ Done tt → needed (codes "parameters") here ≡ Done list
    → Ends (params_walk list) (counts old) (counts mid) (λ found. AreParamsRead old mid found params all) → Ends (constraints here) (counts mid) (counts new) (λ es. AreRead mid new es (numbers_of own))
    → IsExtended mid.names new.names → whole ≡ all ++ own → Ends (features here) (counts old) (counts new) (λ f. IsDocumentRead old new f params whole)
document_returns here list {old} {mid} {new} {params} {all} own whole is_one there p e kept joined = record {
  value = together p.value e.value;
  walked = document_goes_on here list (counts old) (counts mid) p.value is_one there p.walked ∙ gives-next (constraints here) (λ es. Done (together p.value es)) (counts mid) (counts new) e.value e.walked;
  stands = record {
    params_are = kept_params kept params p.stands.sound.held ∙ p.stands.params_are;
    sound = AreParams-later kept p.stands.sound;
    all_are = subst (λ (ids : List ℕ). AreRead old new (flat_map (λ (q : Constrained). q.1) p.value ++ e.value) ids) (sym (ap numbers_of joined ∙ map-append (λ (id : ExprId). id.0) all own)) (AreRead-more p.stands.all_are e.stands);
  };
}

-- ---- the draft is closed

named_params : (names : List (List ℕ)) (params : List Param) → map (λ (p : ParamOf ℕ). let q : spec.Param = record { name = text_of names p.name; kind = p.kind } in q) (map param_of params) ≡ map (param_in names) params
named_params names [] = refl
named_params names (p ∷ params) = ap (λ ps. param_in names p ∷ ps) (named_params names params)

named_constraints : (names : List (List ℕ)) (exprs : List (ExprOf ℕ)) (ids : List ExprId) → map (expr_of names) (map (λ id. expr_at exprs id.0) ids) ≡ map (expr_at (map (expr_of names) exprs)) (numbers_of ids)
named_constraints names exprs [] = refl
named_constraints names exprs (id ∷ ids) =
    ap (λ e. e ∷ map (expr_of names) (map (λ (i : ExprId). expr_at exprs i.0) ids)) (expr_of-at names exprs id.0)
    ∙ ap (λ es. expr_at (map (expr_of names) exprs) id.0 ∷ es) (named_constraints names exprs ids)

held_params : (names : List (List ℕ)) (params : List Param) → AreHeldParams names params → AllByRecursion (λ (p : ParamOf ℕ). p.name < length names) (map param_of params)
held_params names [] held = tt
held_params names (p ∷ params) held = (All-head (λ (q : Param). q.name.0 < length names) p params held, held_params names params (All-tail (λ (q : Param). q.name.0 < length names) p params held))

held_constraints : (names : List (List ℕ)) (exprs : List (ExprOf ℕ)) → AreHeldExprs names exprs → (ids : List ExprId) → AllByRecursion (expression.EachName (λ n. n < length names)) (map (λ id. expr_at exprs id.0) ids)
held_constraints names exprs held [] = tt
held_constraints names exprs held (id ∷ ids) = (held-at names exprs id.0 held, held_constraints names exprs held ids)

pub features_made : (d : Data) (before names : List (List ℕ)) (f : Features) (old new : Drafted) (here : Spot) → here ≡ root d → old ≡ record { names = before; nodes = []; exprs = []; parts = [] }
    → Ends (features here) (counts old) (counts new) (λ g. IsDocumentRead old new g f.params.items f.constraints.items) → new.nodes ≡ old.nodes
    → names ≡ new.names → map (expr_of new.names) f.arena.exprs ≡ new.exprs → AreHeldExprs new.names f.arena.exprs → length f.arena.exprs ≤ expression_limit → AreFeaturesOf d before names f
features_made d before names f old new here is start e no_nodes same exprs held few =
    let n = length f.arena.exprs in
    let value_is : e.value ≡ features_in new.names f =
    ap (λ ps. let g : spec.Features = record { params = ps; constraints = e.value.constraints } in g) (sym e.stands.params_are ∙ sym (named_params new.names f.params.items))
    ∙ ap (λ es. let g : spec.Features = record { params = (features_in new.names f).params; constraints = es } in g)
    (sym e.stands.all_are.stand ∙ ap (λ xs. map (expr_at xs) (numbers_of f.constraints.items)) (sym exprs) ∙ sym (named_constraints new.names f.arena.exprs f.constraints.items))
    in
    let counted : counts new ≡ with_expressions new.names n =
    ap (λ nodes. counts (record new { nodes = nodes })) (no_nodes ∙ ap (λ x. x.nodes) start)
    ∙ ap (λ (k : ℕ). with_expressions new.names k) (ap length (sym exprs) ∙ length-map f.arena.exprs (expr_of new.names))
    in
    let read =
    ap (λ draft. gives (features (root d)) (counts draft)) (sym start) ∙ ap (λ there. gives (features there) (counts old)) (sym is) ∙ e.walked
    ∙ ap (λ g. Ok (g, counts new)) value_is ∙ ap (λ c. Ok (features_in new.names f, c)) counted
    in
    let walked = answers-gives (features (root d)) (from_held before) ∙ read ∙ ap (λ ns. Ok (features_in ns f, with_expressions ns n)) (sym same) in
    let enough : sum_by parts (features_of f).constraints ≤ expression_limit = omega (arith, all_parts-named (text_of new.names) (features_of f).constraints, parts_are_counted before d (features_in new.names f) (with_expressions new.names n) (answers-gives (features (root d)) (from_held before) ∙ read), few) in
    record {
      walk = walked;
      held = held_all (sym same) (record { params = held_params new.names f.params.items e.stands.sound.held; constraints = held_constraints new.names f.arena.exprs held f.constraints.items });
      sound = record {
        few = e.stands.sound.few;
        distinct = e.stands.sound.distinct;
        few_constraints = omega (arith, enough, parts_enough (features_of f).constraints, length-map f.constraints.items (λ (id : ExprId). expr_at f.arena.exprs id.0));
        within = within_arena (ap length (sym exprs) ∙ length-map f.arena.exprs (expr_of new.names)) (All-numbers (length new.exprs) f.constraints.items e.stands.all_are.within);
        few_parts = enough;
      };
    }
  where
    held_all : {ns ms : List (List ℕ)} → ns ≡ ms → EachName (λ k. k < length ns) (features_of f) → EachName (λ k. k < length ms) (features_of f)
    held_all same h = rw (sym same) h

    within_arena : {m n : ℕ} → m ≡ n → All (λ id. id.0 < m) f.constraints.items → All (λ id. id.0 < n) f.constraints.items
    within_arena same h = subst (λ (k : ℕ). All (λ (id : ExprId). id.0 < k) f.constraints.items) same h

-- the fault is the first of the document
pub fault_read : (f : ReadFault) (d : Data) (before names : List (List ℕ)) (old : Drafted) (here : Spot) → here ≡ root d → old ≡ record { names = before; nodes = []; exprs = []; parts = [] } → Fails f (gives (features here) (counts old))
    → ReadsFeatures d before names (Err f)
fault_read (Schema f) d before names old here is start fails =
    answers-gives (features (root d)) (from_held before) ∙ ap (λ draft. gives (features (root d)) (counts draft)) (sym start) ∙ ap (λ there. gives (features there) (counts old)) (sym is) ∙ fails
fault_read NoMemory d before names old here is start fails = tt
