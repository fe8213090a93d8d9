-- The verdict of a leaf on a word where each number of a name stands for a text of its own.
use Rattle.std.specs.Prelude.{ℕ, List, [], ◌∷◌, map, reverse, flat_map, slice_index_or, Option, None}
use Rattle.std.specs.List.{list_all}
use Rattle.spec_bits.specs.Item.{item_holds}
use Rattle.spec_expressions.specs.Expression.{ExprOf}
use Rattle.spec_expressions.specs.Truth.{Truth, Yes, conjunction}
use Rattle.spec_decode.specs.Verdict.{by_items}
use Rattle.mrs_arena.specs.Flat.{FlatItem, FlatNode}
use Rattle.mrs_arena.specs.Paths.{ancestors}
use Rattle.mrs_arena.specs.Nodes.{node_items, parents_of}
use Rattle.mrs_arena.specs.Placed.{item_of, leaves_of}
use Rattle.ast_eval.specs.Choices.{Choices}
use Rattle.ast_eval.specs.Worth.{truth_by, own_text}
use Rattle.insn_tree.specs.Trees.{TreeParts}

-- the condition of node n, where there is one
abbrev pub condition_of : List FlatNode → ℕ → Option (ExprOf ℕ)
condition_of nodes n = slice_index_or (map (λ node. node.condition) nodes) n None

-- the items of these nodes, of which the first is the deepest, from the root down
abbrev pub items_down : List FlatNode → List ℕ → List FlatItem
items_down nodes up = flat_map (node_items nodes) (reverse up)

-- the conditions of these nodes, of which the first is the deepest, together: each sees the fields that are visible at its node
abbrev pub conditions_up : List FlatNode → Choices → ℕ → List ℕ → Truth
conditions_up nodes c w [] = Yes
conditions_up nodes c w (n ∷ up) = conjunction (conditions_up nodes c w up) (truth_by own_text (condition_of nodes n) c (items_down nodes (n ∷ up)) w)

-- what the nodes from node n up to the root say
unfoldable pub node_verdict : List FlatNode → Choices → ℕ → ℕ → Truth
node_verdict nodes c w n =
    by_items (list_all (λ it. item_holds (item_of [] it) w) (items_down nodes (ancestors (parents_of nodes) n))) (conditions_up nodes c w (ancestors (parents_of nodes) n))

abbrev pub leaf_verdict : TreeParts → Choices → ℕ → ℕ → Truth
leaf_verdict tree c w l = node_verdict tree.nodes c w (slice_index_or (leaves_of tree.nodes) l 0)

-- what the conditions along the path to leaf l say
abbrev pub leaf_conditions : TreeParts → Choices → ℕ → ℕ → Truth
leaf_conditions tree c w l = conditions_up tree.nodes c w (ancestors (parents_of tree.nodes) (slice_index_or (leaves_of tree.nodes) l 0))
