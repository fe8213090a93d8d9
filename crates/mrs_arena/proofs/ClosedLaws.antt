-- The arrays of an arena.
use Rattle.std.proofs.Common.{◌≡◌, ◌∙◌, sym, ap, refl, subst, ℕ, ◌<◌, List, [], ◌∷◌, length, map, get_or, Option, Some, None, option_map, IfSome, All, arith, ◌++◌, take, drop, append-nil}
use Rattle.std.proofs.lemmas.List.{get_or-map, length-map, drop_all, take_all}
use Rattle.spec_expressions.specs.Expression.{ExprOf}
use Rattle.mrs_arena.specs.declared.item.Item.{Item}
use Rattle.mrs_arena.specs.declared.node.StoredNode.{StoredNode}
use Rattle.mrs_arena.specs.declared.node_id.NodeId.{NodeId}
use Rattle.mrs_arena.specs.Paths.{path_up, end_of, IsPreorder}
use Rattle.mrs_arena.specs.Nodes.{parents_of}
use Rattle.mrs_arena.specs.Formed.{AreNodes}
use Rattle.mrs_arena.specs.Inside.{parent_of, flat_node, flat_nodes, HasRange, HasExprs, HasEnds, without_end, AreOpen, AreClosed, IsPathFrom}
use Rattle.mrs_arena.proofs.PathLaws.{ancestors-step}
use Rattle.mrs_arena.proofs.PreorderLaws.{IsPreorder-parent}

pub parents_of-flat : (exprs : List (ExprOf ℕ)) (items : List Item) (nodes : List StoredNode) → parents_of (flat_nodes exprs items nodes) ≡ map parent_of nodes
parents_of-flat exprs items [] = refl
parents_of-flat exprs items (node ∷ nodes) = ap (λ parents. parent_of node ∷ parents) (parents_of-flat exprs items nodes)

-- ---- closing

flat_nodes-without_end : (exprs : List (ExprOf ℕ)) (items : List Item) (nodes : List StoredNode) → flat_nodes exprs items (map without_end nodes) ≡ flat_nodes exprs items nodes
flat_nodes-without_end exprs items [] = refl
flat_nodes-without_end exprs items (node ∷ nodes) = ap (λ flat. flat_node exprs items node ∷ flat) (flat_nodes-without_end exprs items nodes)

-- nodes that differ in their ends alone stand for the same
pub flat_nodes-ended : (exprs : List (ExprOf ℕ)) (items : List Item) (nodes ended : List StoredNode) → map without_end ended ≡ map without_end nodes → flat_nodes exprs items ended ≡ flat_nodes exprs items nodes
flat_nodes-ended exprs items nodes ended same = sym (flat_nodes-without_end exprs items ended) ∙ ap (flat_nodes exprs items) same ∙ flat_nodes-without_end exprs items nodes

length-ended : (nodes ended : List StoredNode) → map without_end ended ≡ map without_end nodes → length ended ≡ length nodes
length-ended nodes ended same = sym (length-map ended without_end) ∙ ap length same ∙ length-map nodes without_end

-- no node is put or taken
pub ended-whole : (nodes ended : List StoredNode) (count : ℕ) → map without_end ended ≡ map without_end nodes → length nodes ≡ count → take count (ended ++ drop (length ended) nodes) ≡ ended
ended-whole nodes ended count same all =
    ap (λ rest. take count (ended ++ rest)) (drop_all (length ended) nodes (omega (arith, length-ended nodes ended same)))
    ∙ ap (take count) (append-nil ended) ∙ take_all count ended (omega (arith, length-ended nodes ended same))

ranges-ended : (items : List Item) (nodes ended : List StoredNode) → map without_end ended ≡ map without_end nodes → All (HasRange items) nodes → All (HasRange items) ended
ranges-ended items nodes ended same ranges k d within =
    let count = length-ended nodes ended same in
    let node : without_end (get_or nodes k d) ≡ without_end (get_or ended k d) =
    sym (get_or-map without_end nodes k d (without_end d) (omega arith)) ∙ ap (λ ns. get_or ns k (without_end d)) (sym same) ∙ get_or-map without_end ended k d (without_end d) within in
    subst (HasRange items) node (ranges k d (omega arith))

said-ended : (exprs : List (ExprOf ℕ)) (nodes ended : List StoredNode) → map without_end ended ≡ map without_end nodes → All (HasExprs exprs) nodes → All (HasExprs exprs) ended
said-ended exprs nodes ended same said k d within =
    let count = length-ended nodes ended same in
    let node : without_end (get_or nodes k d) ≡ without_end (get_or ended k d) =
    sym (get_or-map without_end nodes k d (without_end d) (omega arith)) ∙ ap (λ ns. get_or ns k (without_end d)) (sym same) ∙ get_or-map without_end ended k d (without_end d) within in
    subst (HasExprs exprs) node (said k d (omega arith))

pub AreClosed-from : (exprs : List (ExprOf ℕ)) (nodes ended : List StoredNode) (items : List Item) (leaves aliases : ℕ) → AreOpen exprs nodes items leaves aliases → map without_end ended ≡ map without_end nodes → HasEnds ended 0 → AreClosed exprs ended items
AreClosed-from exprs nodes ended items leaves aliases are same ends = record {
  ranges = ranges-ended items nodes ended same are.ranges;
  said = said-ended exprs nodes ended same are.said;
  ends = ends;
  formed = subst AreNodes (sym (flat_nodes-ended exprs items nodes ended same)) are.formed;
}

-- ---- reading

pub end-at : (exprs : List (ExprOf ℕ)) (nodes : List StoredNode) (items : List Item) (n : ℕ) (node : StoredNode) → AreClosed exprs nodes items → n < length nodes → node ≡ get_or nodes n node → node.end ≡ end_of (parents_of (flat_nodes exprs items nodes)) n
end-at exprs nodes items n node are within at =
    ap (λ other. other.end) at ∙ sym (get_or-map (λ other. other.end) nodes n node 0 within) ∙ are.ends n (omega arith) within ∙ ap (λ parents. end_of parents n) (sym (parents_of-flat exprs items nodes))

parent-before : (parents : List (Option ℕ)) (n : ℕ) (parent : Option ℕ) → IsPreorder parents → n < length parents → get_or parents n None ≡ parent → IfSome parent (λ p. p < n)
parent-before parents n None order within at = tt
parent-before parents n (Some p) order within at = IsPreorder-parent parents n p order within at

pub parent-at : (exprs : List (ExprOf ℕ)) (nodes : List StoredNode) (items : List Item) (n : ℕ) (node : StoredNode) → AreClosed exprs nodes items → n < length nodes → node ≡ get_or nodes n node → IfSome (parent_of node) (λ p. p < n)
parent-at exprs nodes items n node are within at =
    let order = subst IsPreorder (parents_of-flat exprs items nodes) are.formed.preorder in
    parent-before (map parent_of nodes) n (parent_of node) order (omega (arith, length-map nodes parent_of)) (get_or-map parent_of nodes n node None within ∙ ap parent_of (sym at))

-- ---- one step up a path

pub IsPathFrom-parent : (nodes : List StoredNode) (n : NodeId) (parent : Option NodeId) → IsPathFrom nodes (Some n) → option_map (λ p. p.0) parent ≡ get_or (map parent_of nodes) n.0 None → IsPathFrom nodes parent
IsPathFrom-parent nodes n None path at = record { order = path.order; within = tt }
IsPathFrom-parent nodes n (Some p) path at =
    let before = IsPreorder-parent (map parent_of nodes) n.0 p.0 path.order (omega (arith, path.within, length-map nodes parent_of)) (sym at) in
    let within = path.within in
    record { order = path.order; within = omega arith }

pub path_up-step : (nodes : List StoredNode) (n : NodeId) (parent : Option NodeId) → IsPathFrom nodes (Some n) → option_map (λ p. p.0) parent ≡ get_or (map parent_of nodes) n.0 None
    → path_up (map parent_of nodes) (Some n.0) ≡ n.0 ∷ path_up (map parent_of nodes) (option_map (λ p. p.0) parent)
path_up-step nodes n parent path at =
    let count : n.0 < length (map parent_of nodes) = omega (arith, path.within, length-map nodes parent_of) in
    ancestors-step (map parent_of nodes) n.0 count (λ p e. IsPreorder-parent (map parent_of nodes) n.0 p path.order count e) ∙ ap (λ up. n.0 ∷ path_up (map parent_of nodes) up) (sym at)
