-- Nodes as they are put, below a node or alone.
use Rattle.std.specs.Prelude.{◌≡◌, ℕ, Bool, false, ◌&&◌, List, Option, Some, None, is_some, codes}
use Rattle.spec_instructions.specs.Tree.{Node}
use Rattle.spec_walk.specs.Walk.{Walk}
use Rattle.spec_walk.specs.Spot.{Spot}
use Rattle.spec_walk.specs.Descend.{inside_of}
use Rattle.spec_instructions.specs.Kind.{Kind}
use Rattle.spec_instructions.specs.Walk.{Above, node_of, child}
use Rattle.mrs_arena.specs.Placed.{Placed, preorder}
use Rattle.schema_draft.specs.Drafted.{named_at}

-- how many named items stand on the path of a node, and none above the root
abbrev pub named_above : List Placed → Option ℕ → ℕ
named_above nodes None = 0
named_above nodes (Some p) = named_at nodes p

-- an object of a kind, with the nodes below it
abbrev pub whole : Kind → ℕ → Spot → Walk Node
whole k above here = node_of k above here (inside_of child here)

-- the elements of the member `children`
abbrev pub children : Above → Spot → Walk (List (Option Node))
children above here = (inside_of child here).optional_parts above (codes "children")

-- the nodes of the set, if it is there, which is put alone
abbrev pub put_set : Option Node → List Placed → List Placed
put_set None nodes = nodes
put_set (Some n) nodes = preorder None 0 n

-- a set that may be chosen is read behind others, of which one may have been chosen, but not both
pub record IsSetPut (found chosen : Bool) (old new : List Placed) (n : Option Node) : Type 0 where
  pub is : chosen ≡ is_some n
  pub once : (found && chosen) ≡ false
  pub nodes : new ≡ put_set n old
