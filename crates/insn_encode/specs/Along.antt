-- The nodes along a path of a tree, by their places from the root.
use Rattle.std.specs.Prelude.{ℕ, List}
use Rattle.mrs_arena.specs.Flat.{FlatNode}
use Rattle.insn_tree.specs.declared.path_id.PathId.{PathId}
use Rattle.insn_tree.specs.PathIds.{end_of}
use Rattle.insn_encode.specs.Held.{node_at}

-- the number of the node at place k from the root of those on a path
abbrev pub node_along : List FlatNode → PathId → ℕ → ℕ
node_along nodes p k = node_at nodes (end_of nodes p) k
