-- What is gathered from the items along a path, from the deepest one up.
use Rattle.std.specs.Prelude.{ℕ, List, [], ◌∷◌}
use Rattle.mrs_arena.specs.Flat.{FlatItem, FlatNode}
use Rattle.mrs_arena.specs.Paths.{ancestors}
use Rattle.mrs_arena.specs.Nodes.{node_items, parents_of}

module _ {A : Type 0} (step : FlatItem → A → A) where
  -- the items of one node, the last one first
  abbrev pub onto : List FlatItem → A → A
  onto [] below = below
  onto (it ∷ items) below = step it (onto items below)

  -- those of the nodes of a path, the deepest first
  abbrev pub upward : List FlatNode → List ℕ → A → A
  upward nodes [] below = below
  upward nodes (n ∷ path) below = upward nodes path (onto (node_items nodes n) below)

  -- those from node n up to the root
  abbrev pub gathered : List FlatNode → ℕ → A → A
  gathered nodes n start = upward nodes (ancestors (parents_of nodes) n) start
