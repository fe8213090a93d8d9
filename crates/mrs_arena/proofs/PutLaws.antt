-- For those who put a tree's nodes one by one: what the nodes are, and where the next may be put.
use Rattle.std.proofs.Common.{◌≡◌, sym, refl, subst, ℕ, ◌+◌, ◌<◌, List, [], ◌∷◌, ◌++◌, length, get_or, Option, Some, None, arith}
use Rattle.mrs_arena.specs.Flat.{FlatItem, FlatNode}
use Rattle.mrs_arena.specs.Paths.{IsPlace}
use Rattle.mrs_arena.specs.Nodes.{parents_of, with_item}
use Rattle.mrs_arena.specs.Limits.{is_leaf, is_alias, leaf_count, alias_count}
use Rattle.mrs_arena.proofs.PathLaws.{ancestors-self, ancestors-above}
use Rattle.mrs_arena.proofs.PreorderLaws.{IsPlace-lt, IsPlace-last, IsPlace-up}
use Rattle.mrs_arena.proofs.LastOneLaws.{length-at_last, map-at_last_same}
use Rattle.mrs_arena.proofs.NodeLaws.{parents_of-append, length-parents_of, count_by-append}

-- ---- one more item

pub length-with_item : (it : FlatItem) (nodes : List FlatNode) → length (with_item it nodes) ≡ length nodes
length-with_item it nodes = length-at_last _ nodes

pub parents_of-with_item : (it : FlatItem) (nodes : List FlatNode) → parents_of (with_item it nodes) ≡ parents_of nodes
parents_of-with_item it nodes = map-at_last_same (λ node. node.parent) _ (λ node. refl) nodes

-- ---- counts

pub leaf_count-append : (nodes more : List FlatNode) → leaf_count (nodes ++ more) ≡ leaf_count nodes + leaf_count more
leaf_count-append nodes more = count_by-append (λ node. is_leaf node.kind) nodes more

pub alias_count-append : (nodes more : List FlatNode) → alias_count (nodes ++ more) ≡ alias_count nodes + alias_count more
alias_count-append nodes more = count_by-append (λ node. is_alias node.kind) nodes more

-- ---- places

-- a node may be put below the one that was put last
pub IsPlace-put : (nodes : List FlatNode) (node : FlatNode) → IsPlace (parents_of (nodes ++ node ∷ [])) (Some (length nodes))
IsPlace-put nodes node =
    subst (λ (parents : List (Option ℕ)). IsPlace parents (Some (length nodes))) (sym (parents_of-append nodes (node ∷ [])))
    (subst (λ (n : ℕ). IsPlace (parents_of nodes ++ node.parent ∷ []) (Some n)) (length-parents_of nodes) (IsPlace-last (parents_of nodes) node.parent))

-- and still is once the node has items
pub IsPlace-with_item : (it : FlatItem) (nodes : List FlatNode) (parent : Option ℕ) → IsPlace (parents_of nodes) parent → IsPlace (parents_of (with_item it nodes)) parent
IsPlace-with_item it nodes parent place = subst (λ (parents : List (Option ℕ)). IsPlace parents parent) (sym (parents_of-with_item it nodes)) place

-- where a node may be put below one, it may be put below the parent of that
pub IsPlace-parent : (parents : List (Option ℕ)) (n p : ℕ) → IsPlace parents (Some n) → get_or parents n None ≡ Some p → p < n → IsPlace parents (Some p)
IsPlace-parent parents n p place is before =
    let within = IsPlace-lt parents n place in
    IsPlace-up parents n p place (ancestors-above parents n p p within is before (ancestors-self parents p (omega arith)))
