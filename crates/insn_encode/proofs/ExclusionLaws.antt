-- The first node on a path that excludes a word: what is asked of one node, and one node further down.
use Rattle.std.specs.Prelude.{slice_get, slice_index_or, option_map, not}
use Rattle.std.specs.Option.{option_or}
use Rattle.std.specs.List.{list_all}
use Rattle.std.proofs.Common.{◌≡◌, ◌∙◌, sym, ap, refl, subst, ℕ, zero, suc, ◌<◌, Bool, true, false, ◌&&◌, ◌||◌, cond, List, [], ◌∷◌, ◌++◌, length, map, reverse, get_or, Option, Some, None, IfSome, All, arith}
use Rattle.std.proofs.lemmas.List.{reverse-append, map-append, length-map, get_or_append_left}
use Rattle.std.proofs.Math.Seq.{get_or-append_seam}
use Rattle.std.proofs.lemmas.Option.{get_or_from_slice_get, slice_get_within}
use Rattle.spec_bits.specs.Item.{item_holds}
use Rattle.spec_expressions.specs.Expression.{ExprOf, with_names}
use Rattle.spec_expressions.specs.Truth.{Truth}
use Rattle.spec_expressions.specs.Scope.{Configuration}
use Rattle.spec_expressions.specs.Value.{truth}
use Rattle.spec_instructions.specs.Tree.{Own}
use Rattle.spec_instructions.specs.Fields.{fields}
use Rattle.spec_encoding.specs.PathLayout.{is_no, node_excludes, excluded_at}
use Rattle.spec_encoding.proofs.ExclusionLaws.{excluded-last, excluded-within}
use Rattle.mrs_arena.specs.declared.expr_id.ExprId.{ExprId}
use Rattle.mrs_arena.specs.declared.item.Item.{Item}
use Rattle.mrs_arena.specs.Flat.{FlatItem, FlatNode, ArenaNode, with_text}
use Rattle.mrs_arena.specs.Paths.{ancestors, path_up}
use Rattle.mrs_arena.specs.Nodes.{parents_of}
use Rattle.mrs_arena.proofs.PathLaws.{ancestors-step}
use Rattle.mrs_arena.specs.Expressions.{expr_at}
use Rattle.mrs_arena.specs.Placed.{text_of, item_of, own_of_flat, own_at, path_to, IsHeldItem, IsHeldNode, IsHeldExpr, AreHeld}
use Rattle.mrs_arena.specs.Views.{flat_item, node_put}
use Rattle.ast_eval.specs.Choices.{Choices, configuration_of}
use Rattle.ast_eval.specs.Fields.{items_to, fields_by}
use Rattle.ast_eval.specs.Worth.{condition_at, IsTruth}
use Rattle.ast_eval.proofs.PathLaws.{held_to}
use Rattle.insn_tree.specs.Verdicts.{AreHeldBy}
use Rattle.insn_encode.specs.Held.{node_at}
use Rattle.insn_encode.specs.Exclusion.{excludes, first_excluding}

-- ---- one node

own-at : (names : List (List ℕ)) (nodes : List FlatNode) (n : ℕ) (node : FlatNode) → slice_get nodes n ≡ Some node → own_at names nodes n ≡ own_of_flat names node
own-at names [] n node at = absurd (cc)
own-at names (first ∷ nodes) zero node at = let same : first ≡ node = cc at in ap (own_of_flat names) same
own-at names (first ∷ nodes) (suc n) node at = own-at names nodes n node at

all-items : (names : List (List ℕ)) (items : List FlatItem) (w : ℕ) → list_all (λ it. item_holds it w) (map (item_of names) items) ≡ list_all (λ it. item_holds (with_text None it) w) items
all-items names [] w = refl
all-items names (it ∷ items) w = ap (λ b. item_holds (with_text None it) w && b) (all-items names items w)

module _ (names : List (List ℕ)) (nodes : List FlatNode) (n : ℕ) (exprs : List (ExprOf ℕ)) (node : ArenaNode) (own : slice_get nodes n ≡ Some (node_put exprs node)) where
  items-hold : (items : List Item) → map flat_item items ≡ node.items → (w : ℕ) → list_all (λ it. item_holds it w) (own_at names nodes n).items ≡ list_all (λ it. item_holds (with_text None it) w) (map flat_item items)
  items-hold items same w =
      ap (λ (o : Own). list_all (λ it. item_holds it w) o.items) (own-at names nodes n (node_put exprs node) own)
      ∙ all-items names node.items w
      ∙ ap (list_all (λ it. item_holds (with_text None it) w)) (sym same)

  pub fails-excludes : (items : List Item) → map flat_item items ≡ node.items → (g : Configuration) (w : ℕ) → list_all (λ it. item_holds (with_text None it) w) (map flat_item items) ≡ false → excludes names nodes n g w ≡ true
  fails-excludes items same g w fails =
      ap (λ b. not b || is_no (truth (own_at names nodes n).condition g (fields (path_to names nodes n)) w)) (items-hold items same w ∙ fails)

  pub holds-excludes : (items : List Item) → map flat_item items ≡ node.items → (g : Configuration) (w : ℕ) → list_all (λ it. item_holds (with_text None it) w) (map flat_item items) ≡ true
      → excludes names nodes n g w ≡ is_no (truth (own_at names nodes n).condition g (fields (path_to names nodes n)) w)
  holds-excludes items same g w holds =
      ap (λ b. not b || is_no (truth (own_at names nodes n).condition g (fields (path_to names nodes n)) w)) (items-hold items same w ∙ holds)

  held-condition : AreHeld names nodes → IsHeldExpr names (node_put exprs node).condition
  held-condition held =
      let x = node_put exprs node in
      let all = held n x (slice_get_within nodes n x own) in
      (subst (IsHeldNode names) (get_or_from_slice_get nodes n x x own) all).condition

  pub condition-truth : (condition : Option ExprId) (c : Choices) (env : List FlatItem) (w : ℕ) (t : Truth) → option_map (λ e. e.0) condition ≡ node.condition → env ≡ items_to nodes n
      → fields_by (text_of names) env ≡ fields (path_to names nodes n) → AreHeldBy names nodes c → IsTruth (condition_at exprs condition) c env w t
      → t ≡ truth (own_at names nodes n).condition (configuration_of (text_of names) c) (fields (path_to names nodes n)) w
  condition-truth condition c env w t same items visible hold is =
      let e = condition_at exprs condition in
      let is_own : e ≡ (node_put exprs node).condition = ap (option_map (expr_at exprs)) same in
      let held : IsHeldExpr names e = subst (IsHeldExpr names) (sym is_own) (held-condition hold.nodes_are) in
      is names (record {
        distinct = hold.distinct;
        expression = held;
        parameters = hold.parameters;
        fields = subst (All (IsHeldItem names)) (sym items) (held_to names nodes hold.nodes_are n);
      })
      ∙ ap (λ fs. truth (option_map (with_names (text_of names)) e) (configuration_of (text_of names) c) fs w) visible
      ∙ ap (λ o. truth (option_map (with_names (text_of names)) o) (configuration_of (text_of names) c) (fields (path_to names nodes n)) w) is_own
      ∙ ap (λ (o : Own). truth o.condition (configuration_of (text_of names) c) (fields (path_to names nodes n)) w) (sym (own-at names nodes n (node_put exprs node) own))

-- ---- one node further down

-- the first that excludes among the nodes above one
abbrev pub above_first : List (List ℕ) → List FlatNode → Option ℕ → Configuration → ℕ → Option ℕ
above_first names nodes None g w = None
above_first names nodes (Some parent) g w = first_excluding names nodes parent g w

module _ (names : List (List ℕ)) (nodes : List FlatNode) (n : ℕ) (parent : Option ℕ) (g : Configuration) (w : ℕ) (step : ancestors (parents_of nodes) n ≡ n ∷ path_up (parents_of nodes) parent) where
  abbrev above : List ℕ
  above = reverse (path_up (parents_of nodes) parent)

  abbrev path_above : List Own
  path_above = map (own_at names nodes) above

  nodes-are : reverse (ancestors (parents_of nodes) n) ≡ above ++ n ∷ []
  nodes-are = ap reverse step ∙ reverse-append (n ∷ []) (path_up (parents_of nodes) parent)

  path-is : path_to names nodes n ≡ path_above ++ own_at names nodes n ∷ []
  path-is = ap (map (own_at names nodes)) nodes-are ∙ map-append (own_at names nodes) above (n ∷ [])

  node-same : node_excludes path_above (own_at names nodes n) g w ≡ excludes names nodes n g w
  node-same = ap (λ path. not (list_all (λ it. item_holds it w) (own_at names nodes n).items) || is_no (truth (own_at names nodes n).condition g (fields path) w)) (sym path-is)

  place : (k : ℕ) → node_at nodes n k ≡ slice_index_or (above ++ n ∷ []) k 0
  place k = ap (λ ns. slice_index_or ns k 0) nodes-are

  numbered : (o : Option ℕ) → excluded_at path_above g w ≡ o → (b : Bool)
      → option_map (node_at nodes n) (option_or o (cond b (Some (length path_above)) None)) ≡ option_or (option_map (λ k. slice_index_or above k 0) o) (cond b (Some n) None)
  numbered (Some k) e b =
      let within = excluded-within path_above g w k e in
      let same = length-map above (own_at names nodes) in
      ap Some (place k ∙ get_or_append_left above (n ∷ []) 0 k (omega (arith, within, same)))
  numbered None e true = ap Some (place (length path_above) ∙ ap (λ k. slice_index_or (above ++ n ∷ []) k 0) (length-map above (own_at names nodes)) ∙ get_or-append_seam above n [] 0)
  numbered None e false = refl

  above-is : (o : Option ℕ) → parent ≡ o → option_map (λ k. slice_index_or above k 0) (excluded_at path_above g w) ≡ above_first names nodes o g w
  above-is None e = ap (λ p. option_map (λ k. slice_index_or (reverse (path_up (parents_of nodes) p)) k 0) (excluded_at (map (own_at names nodes) (reverse (path_up (parents_of nodes) p))) g w)) e
  above-is (Some p) e = ap (λ p. option_map (λ k. slice_index_or (reverse (path_up (parents_of nodes) p)) k 0) (excluded_at (map (own_at names nodes) (reverse (path_up (parents_of nodes) p))) g w)) e

  pub first-step : first_excluding names nodes n g w ≡ option_or (above_first names nodes parent g w) (cond (excludes names nodes n g w) (Some n) None)
  first-step =
      ap (λ path. option_map (node_at nodes n) (excluded_at path g w)) path-is
      ∙ ap (option_map (node_at nodes n)) (excluded-last [] path_above (own_at names nodes n) g w)
      ∙ numbered (excluded_at path_above g w) refl (node_excludes path_above (own_at names nodes n) g w)
      ∙ ap (λ b. option_or (option_map (λ k. slice_index_or above k 0) (excluded_at path_above g w)) (cond b (Some n) None)) node-same
      ∙ ap (λ o. option_or o (cond (excludes names nodes n g w) (Some n) None)) (above-is parent refl)

-- ---- a node with its parent, as it is read

parent-at : (nodes : List FlatNode) (n : ℕ) (node : FlatNode) → slice_get nodes n ≡ Some node → get_or (parents_of nodes) n None ≡ node.parent
parent-at [] n node at = absurd (cc)
parent-at (first ∷ nodes) zero node at = let same : first ≡ node = cc at in ap (λ (x : FlatNode). x.parent) same
parent-at (first ∷ nodes) (suc n) node at = parent-at nodes n node at

module _ (names : List (List ℕ)) (nodes : List FlatNode) (n : ℕ) (exprs : List (ExprOf ℕ)) (node : ArenaNode) (own : slice_get nodes n ≡ Some (node_put exprs node)) (parent : Option ℕ) (has : parent ≡ node.parent) (order : IfSome node.parent (λ p. p < n))
    (g : Configuration) (w : ℕ) where
  step-of : ancestors (parents_of nodes) n ≡ n ∷ path_up (parents_of nodes) parent
  step-of =
      let at = parent-at nodes n (node_put exprs node) own in
      ancestors-step (parents_of nodes) n (omega (arith, slice_get_within nodes n (node_put exprs node) own, length-map nodes (λ (x : FlatNode). x.parent)))
      (λ p is. let before : IfSome (Some p) (λ q. q < n) = subst (λ o. IfSome o (λ q. q < n)) (sym at ∙ is) order in before)
      ∙ ap (λ o. n ∷ path_up (parents_of nodes) o) (at ∙ sym has)

  first-is : first_excluding names nodes n g w ≡ option_or (above_first names nodes parent g w) (cond (excludes names nodes n g w) (Some n) None)
  first-is = first-step names nodes n parent g w step-of

  pub first-root : parent ≡ None → first_excluding names nodes n g w ≡ cond (excludes names nodes n g w) (Some n) None
  first-root root = first-is ∙ ap (λ p. option_or (above_first names nodes p g w) (cond (excludes names nodes n g w) (Some n) None)) root

  pub first-below : (p : ℕ) → parent ≡ Some p → (o : Option ℕ) → o ≡ first_excluding names nodes p g w → first_excluding names nodes n g w ≡ option_or o (cond (excludes names nodes n g w) (Some n) None)
  first-below p is o found =
      first-is
      ∙ ap (λ q. option_or (above_first names nodes q g w) (cond (excludes names nodes n g w) (Some n) None)) is
      ∙ ap (λ x. option_or x (cond (excludes names nodes n g w) (Some n) None)) (sym found)
