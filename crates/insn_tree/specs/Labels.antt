-- Labels of paths by the numbers of their names, and the paths by their labels.
use Rattle.std.specs.Prelude.{ℕ, Bool, false, List, [], ◌∷◌, ◌++◌, map, bytes_eq, Vec, is_some, slice_index_or, Some, None, if◌then◌else◌}
use Rattle.mrs_arena.specs.Placed.{text_of}
use Rattle.insn_tree.specs.Trees.{number_of, numbered}

-- the label of path k, whose name has that number, and is shared or not
abbrev pub flat_label : List (List ℕ) → ℕ → Bool → ℕ → List ℕ
flat_label names name is_shared k = numbered (text_of names name) (if is_shared then Some k else None)

-- the label of path k of paths with these names
abbrev pub label_at : List (List ℕ) → List ℕ → List Bool → ℕ → List ℕ
label_at names ids shared k = flat_label names (slice_index_or ids k 0) (slice_index_or shared k false) k

abbrev pub has_flat_label : List (List ℕ) → List ℕ → List Bool → List ℕ → ℕ → Bool
has_flat_label names ids shared text k = bytes_eq (label_at names ids shared k) text

-- a label with its number comes last, if no path before has it
abbrev pub with_label : List ℕ → ℕ → List (List ℕ × ℕ) → List (List ℕ × ℕ)
with_label text k labels = if is_some (number_of text labels) then labels else labels ++ (text, k) ∷ []

-- entries of a table as labels with their numbers
abbrev pub labels_of : {Z : Type 0} → List (Vec ℕ Z × ℕ) → List (List ℕ × ℕ)
labels_of entries = map (λ e. (e.0.items, e.1)) entries
