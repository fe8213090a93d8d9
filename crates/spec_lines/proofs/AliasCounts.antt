-- The aliases of the tree of an accepted document are no more than those that are counted while it is read.
use Rattle.std.proofs.Common.{◌≡◌, ℕ, ◌+◌, ◌≤◌, List, [], ◌∷◌, ◌++◌, length, Ok, arith, length-append}
use Rattle.spec_walk.specs.Event.{AnAlias}
use Rattle.spec_walk.specs.Limits.{Counts, alias_limit}
use Rattle.spec_walk.specs.Walk.{gives}
use Rattle.spec_walk.specs.Spot.{Spot}
use Rattle.spec_walk.proofs.CountLaws.{cost}
use Rattle.spec_instructions.specs.Kind.{Kind, Set, Group, Leaf, Alias, Instance}
use Rattle.spec_instructions.specs.Tree.{Own, Node, node, Nodes, no_nodes, more}
use Rattle.spec_instructions.specs.Paths.{paths_from}
use Rattle.spec_instructions.specs.Aliases.{AliasPath, with_alias, leaf_aliases, aliases_at, aliases_from, aliases_among, aliases_in}
use Rattle.spec_instructions.specs.Walk.{instructions}
use Rattle.spec_instructions.proofs.KindCounts.{count_in, count_among, IsCounted, read_count}

-- an alias is one
abbrev alias_per : Kind → ℕ
alias_per Alias = 1
alias_per Set = 0
alias_per Group = 0
alias_per Leaf = 0
alias_per Instance = 0

few_of_leaf : (k : ℕ) (path : List Own) (kids : Nodes) → length (leaf_aliases k path kids) ≤ count_among alias_per kids
few_of_leaf k path no_nodes = omega arith
few_of_leaf k path (more (node own kids) ns) = go own.kind (few_of_leaf k path ns)
  where
    go : (kind : Kind) → length (leaf_aliases k path ns) ≤ count_among alias_per ns → length (with_alias kind (record { leaf = k; above = path; own = own }) (leaf_aliases k path ns)) ≤ alias_per kind + count_among alias_per kids + count_among alias_per ns
    go Alias le = omega (arith, le)
    go Set le = omega (arith, le)
    go Group le = omega (arith, le)
    go Leaf le = omega (arith, le)
    go Instance le = omega (arith, le)

few_at : (kind : Kind) (own below : List AliasPath) (n : ℕ) → length own ≤ n → length below ≤ n → length (aliases_at kind own below) ≤ alias_per kind + n
few_at Leaf own below n here there = omega (arith, here)
few_at Set own below n here there = omega (arith, there)
few_at Group own below n here there = omega (arith, there)
few_at Alias own below n here there = omega arith
few_at Instance own below n here there = omega arith

mutual
  few_from : (above : List Own) (k : ℕ) (n : Node) → length (aliases_from above k n) ≤ count_in alias_per n
  few_from above k (node own kids) =
      let path : List Own = above ++ own ∷ [] in
      few_at own.kind (leaf_aliases k path kids) (aliases_among path k kids) (count_among alias_per kids) (few_of_leaf k path kids) (few_among path k kids)

  few_among : (above : List Own) (k : ℕ) (ns : Nodes) → length (aliases_among above k ns) ≤ count_among alias_per ns
  few_among above k no_nodes = omega arith
  few_among above k (more n ns) =
      let next : ℕ = k + length (paths_from above n) in
      omega (arith, length-append (aliases_from above k n) (aliases_among above next ns), few_from above k n, few_among above next ns)

aliases-counted : IsCounted (cost AnAlias) alias_per
aliases-counted Alias here m = omega arith
aliases-counted Set here m = omega arith
aliases-counted Group here m = omega arith
aliases-counted Leaf here m = omega arith
aliases-counted Instance here m = omega arith

-- the aliases of the tree that a document gives are no more than there may be
pub read_aliases : (isa : List ℕ) (here : Spot) (before after : Counts) (tree : Node) → before.aliases ≡ 0 → gives (instructions isa here) before ≡ Ok (tree, after) → length (aliases_in tree) ≤ alias_limit
read_aliases isa here before after tree none e = omega (arith, read_count AnAlias alias_per aliases-counted isa here before after tree none e, few_from [] 0 tree)
