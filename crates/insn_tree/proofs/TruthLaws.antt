-- The conditions down to a node, worked from the root on.
use Rattle.std.proofs.Common.{◌≡◌, ◌∙◌, sym, ap, subst, ℕ, ◌<◌, List, [], map, All, Bool, false, Option, Some, None, IfSome, option_map, slice_get}
use Rattle.std.specs.Prelude.{slice_index_or}
use Rattle.std.proofs.lemmas.Option.{slice_get_within, get_or_from_slice_get}
use Rattle.spec_expressions.specs.Expression.{ExprOf, with_names}
use Rattle.spec_expressions.specs.Truth as truth
use Rattle.spec_expressions.specs.Truth.{conjunction}
use Rattle.spec_expressions.specs.Scope.{Configuration, Field}
use Rattle.spec_expressions.specs.Value as worth
use Rattle.spec_instructions.specs.Fields.{fields}
use Rattle.spec_decode.specs.Verdict.{conditions_from}
use Rattle.mrs_arena.specs.declared.node_id.NodeId.{NodeId}
use Rattle.mrs_arena.specs.declared.expr_id.ExprId.{ExprId}
use Rattle.mrs_arena.specs.Flat.{FlatNode, FlatItem, ArenaNode}
use Rattle.mrs_arena.specs.Views.{node_put}
use Rattle.mrs_arena.specs.Expressions.{expr_at}
use Rattle.mrs_arena.specs.Placed.{text_of, expr_of, path_to, paths_of, leaves_of, IsHeldExpr, IsHeldItem, IsHeldNode, AreHeld}
use Rattle.ast_eval.specs.Choices.{Choices, configuration_of}
use Rattle.ast_eval.specs.Fields.{items_to, fields_by}
use Rattle.ast_eval.specs.Worth.{condition_at, AreAllHeld, IsTruth}
use Rattle.ast_eval.proofs.PathLaws.{held_to}
use Rattle.insn_tree.specs.Conditions.{is_conditioned, path_above, conditions_at}
use Rattle.insn_tree.specs.Verdicts.{AreHeldBy}
use Rattle.insn_tree.proofs.ConditionLaws.{get_or-mapped, conditions-step, free-conditions}

module _ (names : List (List ℕ)) (nodes : List FlatNode) (g : Configuration) (w : ℕ) where
  abbrev above : Option ℕ → truth.Truth
  above parent = conditions_from [] (path_above names nodes parent) g w

  -- the conditions above a node, where it has a parent, and where it has none
  pub above_some : (parent : Option ℕ) (found : Option NodeId) (p : NodeId) (t : truth.Truth) → option_map (λ p. p.0) found ≡ parent → found ≡ Some p → t ≡ conditions_at names nodes g w p.0 → t ≡ above parent
  above_some parent found p t same is h = h ∙ ap above (sym (ap (option_map (λ p. p.0)) is) ∙ same)

  pub above_none : (parent : Option ℕ) (found : Option NodeId) (t : truth.Truth) → option_map (λ p. p.0) found ≡ parent → found ≡ None → t ≡ truth.Yes → t ≡ above parent
  above_none parent found t same is h = h ∙ ap above (sym (ap (option_map (λ p. p.0)) is) ∙ same)

-- the names in a node's condition are held
held_condition : (names : List (List ℕ)) (nodes : List FlatNode) (n : ℕ) (node : FlatNode) → AreHeld names nodes → slice_get nodes n ≡ Some node → IsHeldExpr names node.condition
held_condition names nodes n node held at =
    let is : IsHeldNode names (slice_index_or nodes n node) = held n node (slice_get_within nodes n node at) in
    (subst (IsHeldNode names) (get_or_from_slice_get nodes n node node at) is).condition

module _ (nodes : List FlatNode) (exprs : List (ExprOf ℕ)) (n : ℕ) (node : ArenaNode) (c : Choices) (w : ℕ) (at : slice_get nodes n ≡ Some (node_put exprs node)) where
  -- a node's own condition, read as an expression of the arena
  own : (names : List (List ℕ)) (found : Option ExprId) (items : List FlatItem) (t : truth.Truth) → option_map (λ e. e.0) found ≡ node.condition → items ≡ items_to nodes n → fields_by (text_of names) items ≡ fields (path_to names nodes n)
      → IsTruth (condition_at exprs found) c items w t → AreHeldBy names nodes c → t ≡ worth.truth (option_map (expr_of names) (node_put exprs node).condition) (configuration_of (text_of names) c) (fields (path_to names nodes n)) w
  own names found items t same is fields_are told held =
      let condition : condition_at exprs found ≡ (node_put exprs node).condition = ap (option_map (expr_at exprs)) same in
      let all : AreAllHeld names (condition_at exprs found) c items = record {
        distinct = held.distinct;
        expression = subst (IsHeldExpr names) (sym condition) (held_condition names nodes n (node_put exprs node) held.nodes_are at);
        parameters = held.parameters;
        fields = subst (All (IsHeldItem names)) (sym is) (held_to names nodes held.nodes_are n);
      } in
      told names all
      ∙ ap (λ e. worth.truth (option_map (with_names (text_of names)) e) (configuration_of (text_of names) c) (fields_by (text_of names) items) w) condition
      ∙ ap (λ (fs : List Field). worth.truth (option_map (expr_of names) (node_put exprs node).condition) (configuration_of (text_of names) c) fs w) fields_are

  pub conditions_of : (names : List (List ℕ)) (found : Option ExprId) (items : List FlatItem) (t front both : truth.Truth) → IfSome node.parent (λ p. p < n) → option_map (λ e. e.0) found ≡ node.condition
      → items ≡ items_to nodes n → fields_by (text_of names) items ≡ fields (path_to names nodes n) → IsTruth (condition_at exprs found) c items w t → AreHeldBy names nodes c
      → front ≡ conditions_from [] (path_above names nodes node.parent) (configuration_of (text_of names) c) w → both ≡ conjunction front t → both ≡ conditions_at names nodes (configuration_of (text_of names) c) w n
  conditions_of names found items t front both before same is fields_are told held top joined =
      joined
      ∙ ap (λ a. conjunction a t) top
      ∙ ap (conjunction (conditions_from [] (path_above names nodes node.parent) (configuration_of (text_of names) c) w)) (own names found items t same is fields_are told held)
      ∙ sym (conditions-step names nodes n (node_put exprs node) at before (configuration_of (text_of names) c) w)

-- ---- the conditions along a leaf's path

module _ (names : List (List ℕ)) (nodes : List FlatNode) (g : Configuration) (w l n : ℕ) (leaf : slice_get (leaves_of nodes) l ≡ Some n) where
  path_of : slice_index_or (paths_of names nodes) l [] ≡ path_to names nodes n
  path_of = get_or-mapped (path_to names nodes) (leaves_of nodes) l n [] leaf

  -- the conditions along the leaf's path are those down to its node
  pub leaf_conditions_are : (t : truth.Truth) → t ≡ conditions_at names nodes g w n → t ≡ conditions_from [] (slice_index_or (paths_of names nodes) l []) g w
  leaf_conditions_are t h = h ∙ ap (λ path. conditions_from [] path g w) (sym path_of)

  -- on a path without conditions
  pub no_conditions_at : (flags : List Bool) (flag : Bool) → flags ≡ map (is_conditioned nodes) (leaves_of nodes) → flag ≡ slice_index_or flags l flag → flag ≡ false → truth.Yes ≡ conditions_at names nodes g w n
  no_conditions_at flags flag are at none =
      sym (free-conditions names nodes n (sym (at ∙ ap (λ fs. slice_index_or fs l flag) are ∙ get_or-mapped (is_conditioned nodes) (leaves_of nodes) l n flag leaf) ∙ none) g w)
