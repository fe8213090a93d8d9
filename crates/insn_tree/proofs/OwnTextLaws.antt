-- A verdict is the same by the texts of any names that are held, and how it is worked.
use Rattle.std.proofs.Common.{◌≡◌, ◌∙◌, sym, ap, refl, ℕ, zero, suc, ◌<◌, Bool, true, false, ◌&&◌, ◌||◌, List, [], ◌∷◌, ◌++◌, length, map, reverse, get_or, All, Option, Some, None, IfSome, slice_get, subst}
use Rattle.std.specs.Prelude.{option_map, is_some}
use Rattle.std.specs.List.{list_all, list_any}
use Rattle.std.proofs.lemmas.List.{map-append, get_or-map}
use Rattle.std.proofs.lemmas.List.Elements.{All-head, All-tail}
use Rattle.std.proofs.lemmas.Grind.{reverse_onto}
use Rattle.spec_bits.specs.Item.{item_holds}
use Rattle.spec_expressions.specs.Expression.{ExprOf}
use Rattle.spec_expressions.specs.Truth.{Truth, Yes, No, conjunction}
use Rattle.spec_expressions.specs.Scope.{Configuration}
use Rattle.spec_expressions.specs.Value.{truth}
use Rattle.spec_instructions.specs.Fields.{visible, fields}
use Rattle.spec_decode.specs.Verdict.{path_holds, condition_truth, conditions_from, by_items, verdict}
use Rattle.spec_decode.proofs.ConditionLaws.{conditions-last}
use Rattle.mrs_names.specs.Texts.{AreNames}
use Rattle.mrs_arena.specs.declared.node_id.NodeId.{NodeId}
use Rattle.mrs_arena.specs.declared.expr_id.ExprId.{ExprId}
use Rattle.mrs_arena.specs.Views.{node_put}
use Rattle.mrs_arena.specs.Expressions.{expr_at}
use Rattle.mrs_arena.proofs.NodeLaws.{length-parents_of}
use Rattle.std.proofs.lemmas.Option.{slice_get_within}
use Rattle.mrs_arena.specs.Flat.{FlatItem, FlatNode, ArenaNode}
use Rattle.mrs_arena.specs.Paths.{ancestors, path_up}
use Rattle.mrs_arena.proofs.PathLaws.{ancestors-step}
use Rattle.mrs_arena.specs.Nodes.{parents_of}
use Rattle.mrs_arena.specs.Placed.{text_of, item_of, expr_of, own_at, path_to, leaves_of, IsHeldExpr, IsHeldItem, IsHeldNode, AreHeld}
use Rattle.ast_eval.specs.Choices.{Choices, configuration_of}
use Rattle.ast_eval.specs.Fields.{items_to, fields_by}
use Rattle.ast_eval.specs.Worth.{truth_by, own_text, condition_at}
use Rattle.ast_eval.proofs.PathLaws.{path_items_of, items_on-all}
use Rattle.ast_eval.proofs.SameLaws.{truth_by-held}
use Rattle.insn_tree.specs.Trees.{TreeParts, path_at}
use Rattle.insn_tree.proofs.ConditionLaws.{get_or-mapped}
use Rattle.insn_tree.specs.Conditions.{has_condition, is_conditioned}
use Rattle.insn_tree.specs.OwnTexts.{condition_of, items_down, conditions_up, node_verdict, leaf_verdict}

own_condition : (names : List (List ℕ)) (nodes : List FlatNode) (n : ℕ) → (own_at names nodes n).condition ≡ option_map (expr_of names) (condition_of nodes n)
own_condition names [] n = refl
own_condition names (node ∷ nodes) zero = refl
own_condition names (node ∷ nodes) (suc n) = own_condition names nodes n

condition_held : (names : List (List ℕ)) (nodes : List FlatNode) → AreHeld names nodes → (n : ℕ) → IsHeldExpr names (condition_of nodes n)
condition_held names [] held n = tt
condition_held names (node ∷ nodes) held zero = (All-head (IsHeldNode names) node nodes held).condition
condition_held names (node ∷ nodes) held (suc n) = condition_held names nodes (All-tail (IsHeldNode names) node nodes held) n

-- items hold whatever the texts of their names
items_hold : (names : List (List ℕ)) (w : ℕ) (items : List FlatItem) → list_all (λ it. item_holds it w) (map (item_of names) items) ≡ list_all (λ it. item_holds (item_of [] it) w) items
items_hold names w [] = refl
items_hold names w (it ∷ items) = ap (λ b. item_holds (item_of [] it) w && b) (items_hold names w items)

module _ (names : List (List ℕ)) (nodes : List FlatNode) (c : Choices) (w : ℕ) where
  abbrev by_texts : Configuration
  by_texts = configuration_of (text_of names) c

  down-cons : (n : ℕ) (up : List ℕ) → map (own_at names nodes) (reverse (n ∷ up)) ≡ map (own_at names nodes) (reverse up) ++ own_at names nodes n ∷ []
  down-cons n up = ap (map (own_at names nodes)) (reverse_onto up n []) ∙ map-append (own_at names nodes) (reverse up) (n ∷ [])

  -- a node's own condition
  own_truth : AreNames names → AreHeld names nodes → All (λ name. name < length names) c.names → (n : ℕ) (up : List ℕ)
      → condition_truth (map (own_at names nodes) (reverse up)) (own_at names nodes n) by_texts w ≡ truth_by own_text (condition_of nodes n) c (items_down nodes (n ∷ up)) w
  own_truth distinct held parameters n up =
      ap (λ path. truth (own_at names nodes n).condition by_texts (fields path) w) (sym (down-cons n up))
      ∙ ap (λ items. truth (own_at names nodes n).condition by_texts (visible items) w) (path_items_of names nodes (reverse (n ∷ up)))
      ∙ ap (λ e. truth e by_texts (fields_by (text_of names) (items_down nodes (n ∷ up))) w) (own_condition names nodes n)
      ∙ truth_by-held names distinct (condition_of nodes n) c (items_down nodes (n ∷ up)) w (record {
        distinct = distinct;
        expression = condition_held names nodes held n;
        parameters = parameters;
        fields = items_on-all (IsHeldItem names) nodes (λ k d within. (held k d within).items) (reverse (n ∷ up));
      })

  conditions_are : AreNames names → AreHeld names nodes → All (λ name. name < length names) c.names → (up : List ℕ) → conditions_from [] (map (own_at names nodes) (reverse up)) by_texts w ≡ conditions_up nodes c w up
  conditions_are distinct held parameters [] = refl
  conditions_are distinct held parameters (n ∷ up) =
      ap (λ path. conditions_from [] path by_texts w) (down-cons n up)
      ∙ conditions-last [] (map (own_at names nodes) (reverse up)) (own_at names nodes n) by_texts w
      ∙ ap (λ t. conjunction t (condition_truth (map (own_at names nodes) (reverse up)) (own_at names nodes n) by_texts w)) (conditions_are distinct held parameters up)
      ∙ ap (conjunction (conditions_up nodes c w up)) (own_truth distinct held parameters n up)

  pub node_verdict_is : AreNames names → AreHeld names nodes → All (λ name. name < length names) c.names → (n : ℕ) → verdict (path_to names nodes n) by_texts w ≡ node_verdict nodes c w n
  unfolding node_verdict
  node_verdict_is distinct held parameters n =
      let up = ancestors (parents_of nodes) n in
      ap (λ items. by_items (list_all (λ it. item_holds it w) items) (conditions_from [] (path_to names nodes n) by_texts w)) (path_items_of names nodes (reverse up))
      ∙ ap (λ b. by_items b (conditions_from [] (path_to names nodes n) by_texts w)) (items_hold names w (items_down nodes up))
      ∙ ap (by_items (list_all (λ it. item_holds (item_of [] it) w) (items_down nodes up))) (conditions_are distinct held parameters up)

-- the verdict of a leaf's path
pub leaf_verdict_is : (names : List (List ℕ)) (tree : TreeParts) (c : Choices) (w l : ℕ) → AreNames names → AreHeld names tree.nodes → All (λ name. name < length names) c.names → l < length (leaves_of tree.nodes)
    → verdict (path_at names tree l) (configuration_of (text_of names) c) w ≡ leaf_verdict tree c w l
leaf_verdict_is names tree c w l distinct held parameters within =
    ap (λ path. verdict path (configuration_of (text_of names) c) w) (get_or-map (path_to names tree.nodes) (leaves_of tree.nodes) l 0 [] within)
    ∙ node_verdict_is names tree.nodes c w distinct held parameters (get_or (leaves_of tree.nodes) l 0)

-- items hold along a leaf's path, whatever the texts of names
pub leaf_items_hold : (names : List (List ℕ)) (tree : TreeParts) (w l : ℕ) → l < length (leaves_of tree.nodes)
    → path_holds (path_at names tree l) w ≡ list_all (λ it. item_holds (item_of [] it) w) (items_down tree.nodes (ancestors (parents_of tree.nodes) (get_or (leaves_of tree.nodes) l 0)))
leaf_items_hold names tree w l within =
    let up = ancestors (parents_of tree.nodes) (get_or (leaves_of tree.nodes) l 0) in
    ap (λ path. path_holds path w) (get_or-map (path_to names tree.nodes) (leaves_of tree.nodes) l 0 [] within)
    ∙ ap (λ items. list_all (λ it. item_holds it w) items) (path_items_of names tree.nodes (reverse up))
    ∙ items_hold names w (items_down tree.nodes up)

-- a leaf whose items do not hold is excluded
pub leaf_excluded : (names : List (List ℕ)) (tree : TreeParts) (c : Choices) (w l : ℕ) → l < length (leaves_of tree.nodes) → path_holds (path_at names tree l) w ≡ false → leaf_verdict tree c w l ≡ No
unfolding node_verdict
leaf_excluded names tree c w l within fails =
    ap (λ b. by_items b (conditions_up tree.nodes c w (ancestors (parents_of tree.nodes) (get_or (leaves_of tree.nodes) l 0)))) (sym (leaf_items_hold names tree w l within) ∙ fails)

-- where the items hold, the conditions decide
pub leaf_decided : (names : List (List ℕ)) (tree : TreeParts) (c : Choices) (w l : ℕ) → l < length (leaves_of tree.nodes) → path_holds (path_at names tree l) w ≡ true
    → leaf_verdict tree c w l ≡ conditions_up tree.nodes c w (ancestors (parents_of tree.nodes) (get_or (leaves_of tree.nodes) l 0))
unfolding node_verdict
leaf_decided names tree c w l within all =
    ap (λ b. by_items b (conditions_up tree.nodes c w (ancestors (parents_of tree.nodes) (get_or (leaves_of tree.nodes) l 0)))) (sym (leaf_items_hold names tree w l within) ∙ all)

free_node : (nodes : List FlatNode) (n : ℕ) → has_condition nodes n ≡ false → condition_of nodes n ≡ None
free_node [] n h = refl
free_node (node ∷ nodes) zero h = none node.condition h
  where
    none : (o : Option (ExprOf ℕ)) → is_some o ≡ false → o ≡ None
    none None h = refl
    none (Some e) h = absurd cc
free_node (node ∷ nodes) (suc n) h = free_node nodes n h

-- nodes without conditions say Yes
pub conditions_free : (nodes : List FlatNode) (c : Choices) (w : ℕ) (up : List ℕ) → list_any (has_condition nodes) up ≡ false → conditions_up nodes c w up ≡ Yes
conditions_free nodes c w [] h = refl
conditions_free nodes c w (n ∷ up) h = go (has_condition nodes n) refl h (conditions_free nodes c w up)
  where
    go : (b : Bool) → has_condition nodes n ≡ b → (b || list_any (has_condition nodes) up) ≡ false → (list_any (has_condition nodes) up ≡ false → conditions_up nodes c w up ≡ Yes)
        → conjunction (conditions_up nodes c w up) (truth_by own_text (condition_of nodes n) c (items_down nodes (n ∷ up)) w) ≡ Yes
    go true is h rest = absurd cc
    go false is h rest = ap (λ t. conjunction t (truth_by own_text (condition_of nodes n) c (items_down nodes (n ∷ up)) w)) (rest h) ∙ ap (λ e. conjunction Yes (truth_by own_text e c (items_down nodes (n ∷ up)) w)) (free_node nodes n is)

-- the conditions down to a node are those down to its parent, and its own
pub conditions_up-step : (nodes : List FlatNode) (c : Choices) (w n : ℕ) (parent : Option ℕ) (above own both : Truth) → n < length (parents_of nodes) → get_or (parents_of nodes) n None ≡ parent → ((p : ℕ) → parent ≡ Some p → p < n)
    → above ≡ conditions_up nodes c w (path_up (parents_of nodes) parent) → own ≡ truth_by own_text (condition_of nodes n) c (items_down nodes (ancestors (parents_of nodes) n)) w → both ≡ conjunction above own
    → both ≡ conditions_up nodes c w (ancestors (parents_of nodes) n)
conditions_up-step nodes c w n parent above own both within is before front here joined =
    let step : ancestors (parents_of nodes) n ≡ n ∷ path_up (parents_of nodes) parent = ancestors-step (parents_of nodes) n within (λ p at. before p (sym is ∙ at)) ∙ ap (λ o. n ∷ path_up (parents_of nodes) o) is in
    joined
    ∙ ap (λ t. conjunction t own) front
    ∙ ap (conjunction (conditions_up nodes c w (path_up (parents_of nodes) parent))) (here ∙ ap (λ up. truth_by own_text (condition_of nodes n) c (items_down nodes up) w) step)
    ∙ ap (conditions_up nodes c w) (sym step)

-- ---- how it is worked

module _ (nodes : List FlatNode) (c : Choices) (w : ℕ) where
  -- the conditions above a node, where it has a parent, and where it has none
  pub up_some : (parent : Option ℕ) (found : Option NodeId) (p : NodeId) (t : Truth) → option_map (λ p. p.0) found ≡ parent → found ≡ Some p → t ≡ conditions_up nodes c w (ancestors (parents_of nodes) p.0) → t ≡ conditions_up nodes c w (path_up (parents_of nodes) parent)
  up_some parent found p t same is h = h ∙ ap (λ o. conditions_up nodes c w (path_up (parents_of nodes) o)) (sym (ap (option_map (λ (p : NodeId). p.0)) is) ∙ same)

  pub up_none : (parent : Option ℕ) (found : Option NodeId) (t : Truth) → option_map (λ p. p.0) found ≡ parent → found ≡ None → t ≡ Yes → t ≡ conditions_up nodes c w (path_up (parents_of nodes) parent)
  up_none parent found t same is h = h ∙ ap (λ o. conditions_up nodes c w (path_up (parents_of nodes) o)) (sym (ap (option_map (λ (p : NodeId). p.0)) is) ∙ same)

pub own_conditions : (nodes : List FlatNode) (exprs : List (ExprOf ℕ)) (n : ℕ) (node : ArenaNode) (c : Choices) (w : ℕ) → slice_get nodes n ≡ Some (node_put exprs node) → (found : Option ExprId) (items : List FlatItem) (t front both : Truth)
    → IfSome node.parent (λ p. p < n) → option_map (λ e. e.0) found ≡ node.condition → items ≡ items_to nodes n → t ≡ truth_by own_text (condition_at exprs found) c items w
    → front ≡ conditions_up nodes c w (path_up (parents_of nodes) node.parent) → both ≡ conjunction front t → both ≡ conditions_up nodes c w (ancestors (parents_of nodes) n)
own_conditions nodes exprs n node c w at found items t front both before same is told top joined =
    let condition : condition_at exprs found ≡ condition_of nodes n = ap (option_map (expr_at exprs)) same ∙ sym (get_or-mapped (λ (x : FlatNode). x.condition) nodes n (node_put exprs node) None at) in
    conditions_up-step nodes c w n node.parent front t both
    (subst (λ l. n < l) (sym (length-parents_of nodes)) (slice_get_within nodes n (node_put exprs node) at))
    (get_or-mapped (λ (x : FlatNode). x.parent) nodes n (node_put exprs node) None at)
    (λ p h. subst (λ o. IfSome o (λ q. q < n)) h before)
    top
    (told ∙ ap (λ e. truth_by own_text e c items w) condition ∙ ap (λ (its : List FlatItem). truth_by own_text (condition_of nodes n) c its w) is)
    joined

-- a leaf that is marked as having no conditions
pub leaf_free : (nodes : List FlatNode) (c : Choices) (w l : ℕ) → l < length (leaves_of nodes) → (flags : List Bool) (flag : Bool) → flags ≡ map (is_conditioned nodes) (leaves_of nodes) → flag ≡ get_or flags l flag → flag ≡ false
    → conditions_up nodes c w (ancestors (parents_of nodes) (get_or (leaves_of nodes) l 0)) ≡ Yes
leaf_free nodes c w l within flags flag are at none =
    conditions_free nodes c w (ancestors (parents_of nodes) (get_or (leaves_of nodes) l 0)) (sym (at ∙ ap (λ fs. get_or fs l flag) are ∙ get_or-map (is_conditioned nodes) (leaves_of nodes) l 0 flag within) ∙ none)
