-- What a tree keeps while the names that it was made with grow.
use Rattle.std.specs.Prelude.{◌≡◌, ℕ, List}
use Rattle.mrs_names.specs.Texts.{AreNames, IsExtended}
use Rattle.insn_tree.specs.Trees.{TreeParts, IsOf, tree_paths, tree_aliases}

-- later names serve the tree as the earlier ones did: its labels are those by them, and the paths to its leaves and its aliases are the same
pub record ServeAsWell (earlier later : List (List ℕ)) (tree : TreeParts) : Type 0 where
  pub labels : IsOf later tree
  pub paths : tree_paths later tree ≡ tree_paths earlier tree
  pub aliases : tree_aliases later tree ≡ tree_aliases earlier tree

-- names that only grew since a tree was made serve it as well
abbrev pub GrownNamesServe : Type 0
GrownNamesServe = (earlier later : List (List ℕ)) (tree : TreeParts) → IsOf earlier tree → AreNames later → IsExtended earlier later → ServeAsWell earlier later tree
