-- The leaves of the tree of an accepted document are no more than those that are counted while it is read.
use Rattle.std.proofs.Common.{◌≡◌, ℕ, ◌+◌, ◌≤◌, List, [], ◌∷◌, ◌++◌, length, Ok, arith, length-append}
use Rattle.spec_walk.specs.Event.{ALeaf}
use Rattle.spec_walk.specs.Limits.{Counts, leaf_limit}
use Rattle.spec_walk.specs.Walk.{gives}
use Rattle.spec_walk.specs.Spot.{Spot}
use Rattle.spec_walk.proofs.CountLaws.{cost}
use Rattle.spec_instructions.specs.Kind.{Kind, Set, Group, Leaf, Alias, Instance}
use Rattle.spec_instructions.specs.Tree.{Own, Node, node, Nodes, no_nodes, more}
use Rattle.spec_instructions.specs.Paths.{paths_at, paths_from, paths_among}
use Rattle.spec_instructions.specs.Walk.{instructions}
use Rattle.spec_instructions.proofs.KindCounts.{count_in, count_among, IsCounted, read_count}

-- a leaf is one
abbrev leaf_per : Kind → ℕ
leaf_per Leaf = 1
leaf_per Set = 0
leaf_per Group = 0
leaf_per Alias = 0
leaf_per Instance = 0

few_at : (k : Kind) (path : List Own) (below : List (List Own)) (n : ℕ) → length below ≤ n → length (paths_at k path below) ≤ leaf_per k + n
few_at Leaf path below n le = omega arith
few_at Set path below n le = omega (arith, le)
few_at Group path below n le = omega (arith, le)
few_at Alias path below n le = omega arith
few_at Instance path below n le = omega arith

mutual
  -- a path ends at a leaf, which no other does
  few_from : (above : List Own) (n : Node) → length (paths_from above n) ≤ count_in leaf_per n
  few_from above (node own kids) = few_at own.kind (above ++ own ∷ []) (paths_among (above ++ own ∷ []) kids) (count_among leaf_per kids) (few_among (above ++ own ∷ []) kids)

  few_among : (above : List Own) (ns : Nodes) → length (paths_among above ns) ≤ count_among leaf_per ns
  few_among above no_nodes = omega arith
  few_among above (more n ns) = omega (arith, length-append (paths_from above n) (paths_among above ns), few_from above n, few_among above ns)

leaves-counted : IsCounted (cost ALeaf) leaf_per
leaves-counted Leaf here m = omega arith
leaves-counted Set here m = omega arith
leaves-counted Group here m = omega arith
leaves-counted Alias here m = omega arith
leaves-counted Instance here m = omega arith

-- the leaves of the tree that a document gives are no more than there may be
pub read_leaves : (isa : List ℕ) (here : Spot) (before after : Counts) (tree : Node) → before.leaves ≡ 0 → gives (instructions isa here) before ≡ Ok (tree, after) → length (paths_from [] tree) ≤ leaf_limit
read_leaves isa here before after tree none e = omega (arith, read_count ALeaf leaf_per leaves-counted isa here before after tree none e, few_from [] tree)
