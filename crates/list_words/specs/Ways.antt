-- Leaves and aliases of a tree as those of its machine.
use Rattle.std.specs.Prelude.{◌<◌, ℕ, List, [], length, slice_index_or}
use Rattle.spec_instructions.specs.Tree.{Own}
use Rattle.spec_instructions.specs.Aliases.{alias_paths}
use Rattle.spec_lines.specs.Way as spec
use Rattle.mrs_arena.specs.Flat.{FlatNode}
use Rattle.mrs_arena.specs.Placed.{leaves_of, aliases_of}
use Rattle.insn_tree.specs.Trees.{TreeParts, tree_paths, tree_aliases}
use Rattle.insn_tree.specs.declared.path_id.PathId.{PathId}
use Rattle.insn_tree.specs.declared.path_id.PathId.TheVariants as path

abbrev pub way_by : PathId → spec.Way
way_by (path.Leaf leaf) = spec.ByLeaf leaf.0
way_by (path.Alias alias) = spec.ByAlias alias.0

-- it is one of the tree's
abbrev pub IsWayOf : TreeParts → spec.Way → Type 0
IsWayOf tree (spec.ByLeaf k) = k < length (leaves_of tree.nodes)
IsWayOf tree (spec.ByAlias a) = a < length (aliases_of tree.nodes)

-- the number of its node
abbrev pub way_node : List FlatNode → spec.Way → ℕ
way_node nodes (spec.ByLeaf k) = slice_index_or (leaves_of nodes) k 0
way_node nodes (spec.ByAlias a) = slice_index_or (aliases_of nodes) a 0

-- the path to it, which is that of each machine of the tree
abbrev pub path_along : List (List ℕ) → TreeParts → spec.Way → List Own
path_along names tree (spec.ByLeaf k) = slice_index_or (tree_paths names tree) k []
path_along names tree (spec.ByAlias a) = slice_index_or (alias_paths (tree_aliases names tree)) a []
