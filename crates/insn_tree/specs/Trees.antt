-- What a tree keeps, and the paths, aliases, labels and fields that it stands for by the texts of names.
use Rattle.std.specs.Prelude.{nat_lt, ◌≡◌, ℕ, List, [], ◌∷◌, ◌++◌, ◌<◌, length, slice_get, slice_index_or, true, IfSome, decimal, bytes_eq, Option, Some, None, if◌then◌else◌}
use Rattle.spec_expressions.specs.Expression.{ExprOf}
use Rattle.spec_instructions.specs.Tree.{Own}
use Rattle.spec_instructions.specs.Paths.{path_name, namesakes, labelled_leaf}
use Rattle.spec_instructions.specs.Aliases.{AliasPath, alias_path, labelled_alias}
use Rattle.spec_instructions.specs.Fields.{Field}
use Rattle.mrs_names.specs.Texts.{AreNames}
use Rattle.mrs_arena.specs.Flat.{FlatNode}
use Rattle.mrs_arena.specs.Nodes.{parents_of}
use Rattle.mrs_arena.specs.Limits.{is_leaf}
use Rattle.mrs_arena.specs.Placed.{text_of, paths_of, has_kind, leaves_of, AreHeld}
use Rattle.insn_tree.specs.Aliases.{aliases_by, no_alias}
use Rattle.insn_tree.specs.declared.field_range.FieldRange.{FieldRange}
use Rattle.insn_tree.specs.declared.label_ref.LabelRef.{LabelRef}

-- the nodes and expressions of the arena, and the labels of the leaves and those of the aliases, each with its number
pub record TreeParts : Type 0 where
  pub nodes : List FlatNode
  pub exprs : List (ExprOf ℕ)
  pub labels : List (List ℕ × ℕ)
  pub alias_labels : List (List ℕ × ℕ)

-- the number that stands behind the first equal label
abbrev pub number_of : List ℕ → List (List ℕ × ℕ) → Option ℕ
number_of text [] = None
number_of text (entry ∷ entries) = if bytes_eq text entry.0 then Some entry.1 else number_of text entries

abbrev pub tree_paths : List (List ℕ) → TreeParts → List (List Own)
tree_paths names tree = paths_of names tree.nodes

abbrev pub tree_aliases : List (List ℕ) → TreeParts → List AliasPath
tree_aliases names tree = aliases_by names tree.nodes

-- the number of path k of these where another one has its name
abbrev pub label_number : List (List Own) → ℕ → Option ℕ
label_number paths k = if nat_lt 1 (namesakes (path_name (slice_index_or paths k [])) paths) then Some k else None

abbrev pub path_at : List (List ℕ) → TreeParts → ℕ → List Own
path_at names tree l = slice_index_or (tree_paths names tree) l []

abbrev pub alias_at : List (List ℕ) → TreeParts → ℕ → AliasPath
alias_at names tree a = slice_index_or (tree_aliases names tree) a no_alias

-- the path of alias a: that to its leaf, with the alias behind it
abbrev pub alias_path_at : List (List ℕ) → TreeParts → ℕ → List Own
alias_path_at names tree a = alias_path (alias_at names tree a)

-- the names hold those of the nodes, and the tree's labels are those by these names
pub record IsOf (names : List (List ℕ)) (tree : TreeParts) : Type 0 where
  pub names_are : AreNames names
  pub held : AreHeld names tree.nodes
  pub labels : (text : List ℕ) → number_of text tree.labels ≡ labelled_leaf (tree_paths names tree) text
  pub alias_labels : (text : List ℕ) → number_of text tree.alias_labels ≡ labelled_alias (tree_aliases names tree) text

-- leaf number l is node n
pub record IsLeafNumber (nodes : List FlatNode) (n l : ℕ) : Type 0 where
  pub within : l < length (leaves_of nodes)
  pub node : slice_get (leaves_of nodes) l ≡ Some n

-- leaf number l is the node above node n, where that is a leaf
abbrev pub IsLeafAbove : List FlatNode → ℕ → ℕ → Type 0
IsLeafAbove nodes n l = IfSome (slice_index_or (parents_of nodes) n None) (λ parent. has_kind is_leaf nodes parent ≡ true → IsLeafNumber nodes parent l)

-- a label as it is printed
abbrev pub numbered : List ℕ → Option ℕ → List ℕ
numbered name None = name
numbered name (Some k) = name ++ 35 ∷ decimal k

abbrev pub label_text : LabelRef → List ℕ
label_text l = numbered l.name.now l.number

-- a field by the text of its name
abbrev pub field_of : List (List ℕ) → FieldRange → Field
field_of names f = record { name = text_of names f.name.0; start = f.range.start; width = f.range.width }
