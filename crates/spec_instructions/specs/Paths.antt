-- The paths from the set to each leaf, and the labels of leaves. Labels speak of any list of paths: they are those of aliases too.
use Rattle.std.specs.Prelude.{◌≡◌, ◌≢◌, ◌↔◌, ◌<◌, ◌≤◌, ℕ, List, [], ◌∷◌, ◌++◌, Option, Some, None, if◌then◌else◌, nat_lt, bytes_eq, count_by, decimal, flat_map, slice_index_or, Bool, true, find, length, All}
use Rattle.std.specs.List.{range_with_len}
use Rattle.spec_bits.specs.Item.{Item}
use Rattle.spec_walk.specs.Limits.{leaf_limit}
use Rattle.spec_instructions.specs.Name.{is_name}
use Rattle.spec_instructions.specs.Kind.{Kind, Set, Group, Leaf, Alias, Instance}
use Rattle.spec_instructions.specs.Tree.{Own, Node, node, Nodes, no_nodes, more}

-- a path ends at a leaf; what hangs below a set or a group is followed on
abbrev pub paths_at : Kind → List Own → List (List Own) → List (List Own)
paths_at Leaf path below = path ∷ []
paths_at Set path below = below
paths_at Group path below = below
paths_at Alias path below = []
paths_at Instance path below = []

abbrev mutual
  -- the paths from a node to its leaves, in document order, behind the nodes above it
  pub paths_from : List Own → Node → List (List Own)
  paths_from above (node own kids) = paths_at own.kind (above ++ own ∷ []) (paths_among (above ++ own ∷ []) kids)

  pub paths_among : List Own → Nodes → List (List Own)
  paths_among above no_nodes = []
  paths_among above (more n ns) = paths_from above n ++ paths_among above ns

-- the name of a path's last node
abbrev pub path_name : List Own → List ℕ
path_name [] = []
path_name (own ∷ []) = own.name
path_name (own ∷ next ∷ rest) = path_name (next ∷ rest)

-- all items along a path, from the root on
abbrev pub path_items : List Own → List Item
path_items path = flat_map (λ own. own.items) path

-- ---- labels

-- the number of paths with that name
abbrev pub namesakes : List ℕ → List (List Own) → ℕ
namesakes name paths = count_by (λ path. bytes_eq name (path_name path)) paths

-- a path's name alone, or with `#` and its number where another path has the name
abbrev pub labelled : ℕ → List ℕ → ℕ → List ℕ
labelled sakes name k = if nat_lt 1 sakes then name ++ 35 ∷ decimal k else name

abbrev pub label : List (List Own) → ℕ → List ℕ
label paths k = labelled (namesakes (path_name (slice_index_or paths k [])) paths) (path_name (slice_index_or paths k [])) k

-- path k has that label
abbrev pub has_label : List (List Own) → List ℕ → ℕ → Bool
has_label paths text k = bytes_eq (label paths k) text

-- the number of the first path with that label
abbrev pub labelled_path : List (List Own) → List ℕ → Option ℕ
labelled_path paths text = find (has_label paths text) (range_with_len 0 (length paths))

-- where the paths are those to the leaves, of the first leaf
abbrev pub labelled_leaf : List (List Own) → List ℕ → Option ℕ
labelled_leaf paths text = labelled_path paths text

-- ---- what labels are for

-- path k has the label, and no path before it
pub record IsFirstLabelled (paths : List (List Own)) (text : List ℕ) (k : ℕ) : Type 0 where
  pub within : k < length paths
  pub has : label paths k ≡ text
  pub first : (j : ℕ) → j < k → label paths j ≢ text

-- by a label the first path that has it is found, and none where no path has it
pub record IsFoundByLabel (paths : List (List Own)) (text : List ℕ) : Type 0 where
  pub some : (k : ℕ) → (labelled_path paths text ≡ Some k) ↔ IsFirstLabelled paths text k
  pub none : (labelled_path paths text ≡ None) ↔ ((k : ℕ) → k < length paths → label paths k ≢ text)

abbrev pub LabelsFindLeaves : Type 0
LabelsFindLeaves = (paths : List (List Own)) (text : List ℕ) → IsFoundByLabel paths text

-- no two paths have one label, and each is found by its own, where their names are names, which hold no `#`, and there are no more of them than of leaves there may be, and of aliases
pub record AreTold (paths : List (List Own)) : Type 0 where
  pub distinct : (j k : ℕ) → j < length paths → k < length paths → label paths j ≡ label paths k → j ≡ k
  pub found : (k : ℕ) → k < length paths → labelled_path paths (label paths k) ≡ Some k

abbrev pub LabelsTellLeaves : Type 0
LabelsTellLeaves = (paths : List (List Own)) → length paths ≤ leaf_limit → All (λ path. is_name (path_name path) ≡ true) paths → AreTold paths
