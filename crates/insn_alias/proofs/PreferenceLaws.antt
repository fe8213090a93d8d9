-- What an expression of a node is worth, as it is read.
use Rattle.std.proofs.Common.{◌≡◌, ◌∙◌, sym, ap, subst, ℕ, zero, suc, false, List, [], ◌∷◌, All, Option, Some, None, option_map, slice_get}
use Rattle.std.proofs.lemmas.Option.{get_or_from_slice_get, slice_get_within}
use Rattle.spec_expressions.specs.Expression.{ExprOf}
use Rattle.spec_expressions.specs.Truth.{Truth}
use Rattle.spec_expressions.specs.Value.{truth}
use Rattle.spec_instructions.specs.Tree.{Own}
use Rattle.spec_instructions.specs.Fields.{fields}
use Rattle.spec_decode.specs.Preferred.{is_yes, prefers}
use Rattle.mrs_arena.specs.Flat.{FlatItem, FlatNode}
use Rattle.mrs_arena.specs.Placed.{text_of, expr_of, own_of_flat, own_at, path_to, IsHeldItem, IsHeldNode, IsHeldExpr}
use Rattle.ast_eval.specs.Choices.{Choices, configuration_of}
use Rattle.ast_eval.specs.Fields.{items_to, fields_by}
use Rattle.ast_eval.specs.Worth.{IsTruth}
use Rattle.ast_eval.proofs.PathLaws.{held_to}
use Rattle.insn_tree.specs.Verdicts.{AreHeldBy}

own-at : (names : List (List ℕ)) (nodes : List FlatNode) (n : ℕ) (node : FlatNode) → slice_get nodes n ≡ Some node → own_at names nodes n ≡ own_of_flat names node
own-at names [] n node at = absurd cc
own-at names (first ∷ nodes) zero node at = let same : first ≡ node = cc at in ap (own_of_flat names) same
own-at names (first ∷ nodes) (suc n) node at = own-at names nodes n node at

module _ (names : List (List ℕ)) (nodes : List FlatNode) (n : ℕ) (node : FlatNode) (at : slice_get nodes n ≡ Some node) (c : Choices) (w : ℕ) (hold : AreHeldBy names nodes c) (items : List FlatItem) (is : items ≡ items_to nodes n)
    (visible : fields_by (text_of names) items ≡ fields (path_to names nodes n)) where
  held_node : IsHeldNode names node
  held_node = subst (IsHeldNode names) (get_or_from_slice_get nodes n node node at) (hold.nodes_are n node (slice_get_within nodes n node at))

  worth : (e : Option (ExprOf ℕ)) (t : Truth) → IsHeldExpr names e → IsTruth e c items w t → t ≡ truth (option_map (expr_of names) e) (configuration_of (text_of names) c) (fields (path_to names nodes n)) w
  worth e t held told =
      told names (record { distinct = hold.distinct; expression = held; parameters = hold.parameters; fields = subst (All (IsHeldItem names)) (sym is) (held_to names nodes hold.nodes_are n) })
      ∙ ap (λ fs. truth (option_map (expr_of names) e) (configuration_of (text_of names) c) fs w) visible

  pub condition-is : (e : Option (ExprOf ℕ)) (t : Truth) → e ≡ node.condition → IsTruth e c items w t → t ≡ truth (own_at names nodes n).condition (configuration_of (text_of names) c) (fields (path_to names nodes n)) w
  condition-is e t same told =
      worth e t (subst (IsHeldExpr names) (sym same) held_node.condition) told
      ∙ ap (λ o. truth (option_map (expr_of names) o) (configuration_of (text_of names) c) (fields (path_to names nodes n)) w) same
      ∙ ap (λ (o : Own). truth o.condition (configuration_of (text_of names) c) (fields (path_to names nodes n)) w) (sym (own-at names nodes n node at))

  -- a preference, where there is one, and where there is none
  pub preference-is : (e : ExprOf ℕ) (t : Truth) → Some e ≡ node.preferred → IsTruth (Some e) c items w t → is_yes t ≡ prefers (own_at names nodes n).preferred (configuration_of (text_of names) c) (fields (path_to names nodes n)) w
  preference-is e t same told =
      ap is_yes (worth (Some e) t (subst (IsHeldExpr names) (sym same) held_node.preferred) told)
      ∙ ap (λ o. prefers (option_map (expr_of names) o) (configuration_of (text_of names) c) (fields (path_to names nodes n)) w) same
      ∙ ap (λ (o : Own). prefers o.preferred (configuration_of (text_of names) c) (fields (path_to names nodes n)) w) (sym (own-at names nodes n node at))

pub no_preference : (names : List (List ℕ)) (nodes : List FlatNode) (n : ℕ) (node : FlatNode) → slice_get nodes n ≡ Some node → None ≡ node.preferred → (c : Choices) (w : ℕ)
    → false ≡ prefers (own_at names nodes n).preferred (configuration_of (text_of names) c) (fields (path_to names nodes n)) w
no_preference names nodes n node at none c w =
    ap (λ o. prefers (option_map (expr_of names) o) (configuration_of (text_of names) c) (fields (path_to names nodes n)) w) none
    ∙ ap (λ (o : Own). prefers o.preferred (configuration_of (text_of names) c) (fields (path_to names nodes n)) w) (sym (own-at names nodes n node at))
