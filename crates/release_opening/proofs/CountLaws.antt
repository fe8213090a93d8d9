-- What is counted in an arena, and in features by the numbers of names, is what is counted in the set and in the features.
use Rattle.std.proofs.Common.{◌≡◌, ◌∙◌, sym, ap, refl, ℕ, suc, ◌+◌, ◌-◌, ◌<◌, ◌≤◌, Bool, true, false, cond, List, [], ◌∷◌, ◌++◌, length, filter, slice_get, Option, Some, None, unwrap_or, option_map, nat_eq, bytes_eq, arith}
use Rattle.std.specs.List.{range_with_len}
use Rattle.std.proofs.lemmas.List.{map-id, length-map, length-append}
use Rattle.std.proofs.lemmas.List.FromFn.{map-range_with_len_more}
use Rattle.std.proofs.lemmas.List.Elements.{filter-append}
use Rattle.spec_walk.specs.Limits.{Counts}
use Rattle.spec_instructions.specs.Tree.{Node, node, Nodes, no_nodes, more}
use Rattle.spec_instructions.specs.Paths.{paths_from}
use Rattle.spec_instructions.specs.Aliases.{aliases_in, owns_of, owns_among}
use Rattle.spec_features.specs.Features as spec
use Rattle.spec_features.specs.Features.{ParamOf, FeaturesOf, is_boolean, booleans, with_names, EachName}
use Rattle.spec_features.specs.Theory.{theory}
use Rattle.spec_features.proofs.Renamed.{theory_alike}
use Rattle.spec_run.specs.Checking as run
use Rattle.spec_run.specs.Checking.{set_counts, feature_counts}
use Rattle.mrs_names.specs.Texts.{AreNames}
use Rattle.mrs_arena.specs.declared.kind.Kind.{Kind}
use Rattle.mrs_arena.specs.Flat.{FlatNode, ArenaParts}
use Rattle.mrs_arena.specs.Placed.{preorder, preorders, placed_node, has_kind, leaves_of, aliases_of, text_of}
use Rattle.features_reader.specs.declared.features.Features.{Features}
use Rattle.features_reader.specs.FeatureViews as views
use Rattle.schema_draft.proofs.TakenLaws.{same_texts}
use Rattle.release_opening.specs.declared.counted.SetCounts.{SetCounts}
use Rattle.release_opening.specs.declared.counted.FeatureCounts.{FeatureCounts}
use Rattle.release_opening.specs.Counted.{set_of, features_of}
use Rattle.release_opening.specs.Stages.{IsArenaFor, AreTheirs}

-- ---- nodes of a kind

range_more : (n : ℕ) → range_with_len 0 (n + 1) ≡ range_with_len 0 n ++ n ∷ []
range_more n = sym (map-id (range_with_len 0 (n + 1))) ∙ map-range_with_len_more (λ k. k) 0 n n (omega arith) ∙ ap (λ ks. ks ++ n ∷ []) (map-id (range_with_len 0 n))

-- how many of the first n nodes are of the kind
abbrev pub kept : (Kind → Bool) → List FlatNode → ℕ → ℕ
kept is nodes n = length (filter (has_kind is nodes) (range_with_len 0 n))

one_or_none : (b : Bool) (n : ℕ) → length (cond b (n ∷ []) []) ≡ cond b 1 0
one_or_none true n = refl
one_or_none false n = refl

pub one_at_most : (b : Bool) → cond b 1 0 ≤ 1
one_at_most true = omega arith
one_at_most false = omega arith

-- one more node
pub kept_more : (is : Kind → Bool) (nodes : List FlatNode) (n : ℕ) (flat : FlatNode) → slice_get nodes n ≡ Some flat → kept is nodes (n + 1) ≡ kept is nodes n + cond (is flat.kind) 1 0
kept_more is nodes n flat at =
    let p = has_kind is nodes in
    ap (λ ks. length (filter p ks)) (range_more n)
    ∙ ap length (filter-append p (range_with_len 0 n) (n ∷ []))
    ∙ length-append (filter p (range_with_len 0 n)) (filter p (n ∷ []))
    ∙ ap (λ m. kept is nodes n + m) (one_or_none (p n) n)
    ∙ ap (λ o. kept is nodes n + cond (unwrap_or (option_map (λ other. is other.kind) o) false) 1 0) at

-- ---- the set

mutual
  owns-length : (parent : Option ℕ) (n : ℕ) (t : Node) → length (preorder parent n t) ≡ length (owns_of t)
  owns-length parent n (node own kids) = ap suc (owns-length_all (Some n) (n + 1) kids)

  owns-length_all : (parent : Option ℕ) (n : ℕ) (ts : Nodes) → length (preorders parent n ts) ≡ length (owns_among ts)
  owns-length_all parent n no_nodes = refl
  owns-length_all parent n (more t ts) =
      let first = preorder parent n t in
      let rest = preorders parent (n + length first) ts in
      length-append first rest
      ∙ ap (λ k. k + length rest) (owns-length parent n t)
      ∙ ap (λ k. length (owns_of t) + k) (owns-length_all parent (n + length first) ts)
      ∙ sym (length-append (owns_of t) (owns_among ts))

-- what is counted in an arena for a set is what is counted in the set
pub set_told : (names : List (List ℕ)) (read : Node × Counts) (a : ArenaParts) (c : SetCounts) → IsArenaFor names read a
    → c.nodes ≡ length a.nodes → c.leaves ≡ length (leaves_of a.nodes) → c.aliases ≡ length (aliases_of a.nodes) → set_counts read.0 ≡ set_of c
set_told names read a c for nodes leaves aliases =
    let made : ℕ → ℕ → ℕ → run.SetCounts = λ n l m. record { nodes = n; leaves = l; aliases = m } in
    let n : length (owns_of read.0) ≡ c.nodes = sym (nodes ∙ sym (length-map a.nodes (placed_node names)) ∙ ap length for.tree ∙ owns-length None 0 read.0) in
    let l = ap length for.paths ∙ length-map (leaves_of a.nodes) _ ∙ sym leaves in
    let m = ap length for.aliases ∙ length-map (aliases_of a.nodes) _ ∙ sym aliases in
    ap (λ k. made k (length (paths_from [] read.0)) (length (aliases_in read.0))) n
    ∙ ap (λ k. made c.nodes k (length (aliases_in read.0))) l
    ∙ ap (λ k. made c.nodes c.leaves k) m

-- ---- features

-- what is counted in features by the numbers of names is what is counted in those of the texts
pub features_told : (names : List (List ℕ)) (theirs : spec.Features) (f : Features) (c : FeatureCounts) → AreNames names → AreTheirs names theirs f
    → c.booleans ≡ length (booleans (views.features_of f).params) → c.others ≡ length (views.features_of f).params - c.booleans
    → c.constraints ≡ length (views.features_of f).constraints → c.atoms ≡ (theory nat_eq (views.features_of f)).atoms → feature_counts theirs ≡ features_of c
features_told names theirs f c are for of_booleans of_others of_constraints of_atoms =
    let made : ℕ → ℕ → ℕ → ℕ → run.FeatureCounts = λ b o k a. record { booleans = b; others = o; constraints = k; atoms = a } in
    let g = views.features_of f in
    let texts = views.features_in names f in
    let alike = theory_alike nat_eq bytes_eq (text_of names) (λ n. n < length names) (λ m n low high. same_texts names are m n low high) g for.held in
    let params : length texts.params ≡ length g.params = length-map g.params _ in
    let b : length (booleans texts.params) ≡ c.booleans = ap (λ t. length t.names) alike ∙ length-map (booleans g.params) (text_of names) ∙ sym of_booleans in
    let o : length texts.params - length (booleans texts.params) ≡ c.others = ap (λ k. k - length (booleans texts.params)) params ∙ ap (λ k. length g.params - k) b ∙ sym of_others in
    let k : length texts.constraints ≡ c.constraints = length-map g.constraints _ ∙ sym of_constraints in
    let a : (theory bytes_eq texts).atoms ≡ c.atoms = ap (λ t. t.atoms) alike ∙ sym of_atoms in
    ap feature_counts for.are
    ∙ ap (λ n. made n (length texts.params - length (booleans texts.params)) (length texts.constraints) (theory bytes_eq texts).atoms) b
    ∙ ap (λ n. made c.booleans n (length texts.constraints) (theory bytes_eq texts).atoms) o
    ∙ ap (λ n. made c.booleans c.others n (theory bytes_eq texts).atoms) k
    ∙ ap (λ n. made c.booleans c.others c.constraints n) a
