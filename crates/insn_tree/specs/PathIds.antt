-- Paths of a tree, by what they end at: a leaf, or an alias of one.
use Rattle.std.specs.Prelude.{ℕ, ◌<◌, List, length, slice_index_or}
use Rattle.spec_instructions.specs.Tree.{Own}
use Rattle.spec_instructions.specs.Paths.{label}
use Rattle.spec_instructions.specs.Aliases.{alias_paths}
use Rattle.mrs_arena.specs.Flat.{FlatNode}
use Rattle.mrs_arena.specs.Placed.{leaves_of, aliases_of}
use Rattle.insn_tree.specs.Trees.{TreeParts, tree_paths, tree_aliases, path_at, alias_path_at}
use Rattle.insn_tree.specs.declared.path_id.PathId.{PathId}
use Rattle.insn_tree.specs.declared.path_id.PathId.TheVariants as path

-- the number of the leaf or the alias that a path ends at
abbrev pub number : PathId → ℕ
number (path.Leaf leaf) = leaf.0
number (path.Alias alias) = alias.0

-- the nodes that the paths of its kind end at: the leaves, or the aliases
abbrev pub ends : List FlatNode → PathId → List ℕ
ends nodes (path.Leaf leaf) = leaves_of nodes
ends nodes (path.Alias alias) = aliases_of nodes

-- it is one of the tree's
abbrev pub IsPathOf : TreeParts → PathId → Type 0
IsPathOf tree p = number p < length (ends tree.nodes p)

-- the node that it ends at
abbrev pub end_of : List FlatNode → PathId → ℕ
end_of nodes p = slice_index_or (ends nodes p) (number p) 0

-- what it stands for: the nodes along it, by the texts of names
abbrev pub path_of : List (List ℕ) → TreeParts → PathId → List Own
path_of names tree (path.Leaf leaf) = path_at names tree leaf.0
path_of names tree (path.Alias alias) = alias_path_at names tree alias.0

-- all paths of its kind, and its label among these
abbrev pub kindred : List (List ℕ) → TreeParts → PathId → List (List Own)
kindred names tree (path.Leaf leaf) = tree_paths names tree
kindred names tree (path.Alias alias) = alias_paths (tree_aliases names tree)

abbrev pub label_along : List (List ℕ) → TreeParts → PathId → List ℕ
label_along names tree p = label (kindred names tree p) (number p)
