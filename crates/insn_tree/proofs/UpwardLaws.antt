-- What is gathered upward is what the items along the path give from the last one back.
use Rattle.std.proofs.Common.{◌≡◌, ◌∙◌, sym, ap, refl, ℕ, List, [], ◌∷◌, ◌++◌, reverse, slice_get, Some, All}
use Rattle.std.specs.Prelude.{flat_map}
use Rattle.mrs_arena.specs.Flat.{FlatItem, FlatNode}
use Rattle.mrs_arena.specs.Paths.{ancestors}
use Rattle.mrs_arena.specs.Nodes.{node_items, parents_of}
use Rattle.mrs_arena.specs.Formed.{IsItem, AreNodes}
use Rattle.ast_eval.specs.Fields.{items_to}
use Rattle.ast_eval.proofs.PathLaws.{items_turned, items-at}
use Rattle.insn_tree.specs.Upward.{onto, upward, gathered}

module _ {A : Type 0} (step : FlatItem → A → A) where
  pub onto-append : (xs ys : List FlatItem) (below : A) → onto step (xs ++ ys) below ≡ onto step xs (onto step ys below)
  onto-append [] ys below = refl
  onto-append (x ∷ xs) ys below = ap (step x) (onto-append xs ys below)

  upward-onto : (nodes : List FlatNode) (path : List ℕ) (below : A) → upward step nodes path below ≡ onto step (flat_map (node_items nodes) (reverse path)) below
  upward-onto nodes [] below = refl
  upward-onto nodes (n ∷ path) below =
      upward-onto nodes path (onto step (node_items nodes n) below)
      ∙ sym (onto-append (flat_map (node_items nodes) (reverse path)) (node_items nodes n) below)
      ∙ ap (λ items. onto step items below) (sym (items_turned nodes n path))

  pub gathered-onto : (nodes : List FlatNode) (n : ℕ) (start : A) → gathered step nodes n start ≡ onto step (items_to nodes n) start
  gathered-onto nodes n start = upward-onto nodes (ancestors (parents_of nodes) n) start

-- one node further up
pub upward-step : {A : Type 0} (step : FlatItem → A → A) (nodes : List FlatNode) (path rest : List ℕ) (n : ℕ) (node : FlatNode) (items : List FlatItem) (below new start : A)
    → path ≡ n ∷ rest → slice_get nodes n ≡ Some node → items ≡ node.items → new ≡ onto step items below → upward step nodes path below ≡ start → upward step nodes rest new ≡ start
upward-step step nodes path rest n node items below new start goes at has is before =
    ap (upward step nodes rest) (is ∙ ap (λ its. onto step its below) (has ∙ sym (items-at nodes n node at)))
    ∙ ap (λ ns. upward step nodes ns below) (sym goes)
    ∙ before

-- ---- what holds of the items of all nodes

pub formed_items : (nodes : List FlatNode) → AreNodes nodes → All (λ node. All IsItem node.items) nodes
formed_items nodes formed k d h = (formed.items k d h).each
