-- All that is shown of a leaf: its label, its path and its fixed bits, then its visible fields and its free unnamed bits, and
-- then its aliases.
use Rattle.std.specs.Prelude.{ℕ, List, [], ◌∷◌, ◌++◌, Bool, true, false, codes, decimal, flat_map, slice_index_or}
use Rattle.spec_instructions.specs.Tree.{Own}
use Rattle.spec_instructions.specs.Fields.{Field, fields}
use Rattle.spec_encoding.specs.PathLayout.{is_shown, free_unnamed, default_bits}
use Rattle.spec_lines.specs.Hex.{hex}
use Rattle.spec_decode.specs.Machine.{Machine}
use Rattle.spec_lines.specs.Leaf.{leaf_text}
use Rattle.spec_lines.specs.LeafAliases.{alias_lines}

-- a field is shown on lines, or all its bits are fixed
abbrev pub shown_text : Bool → List ℕ
shown_text true = codes " shown\n"
shown_text false = codes " fixed\n"

-- a line `field` with its name, its lowest bit and how many bits it has, and whether it is shown
abbrev pub field_text : Field → Bool → List ℕ
field_text f is_open = codes "field " ++ (f.name ++ (32 ∷ (decimal f.start ++ (32 ∷ (decimal f.width ++ shown_text is_open)))))

abbrev pub field_line : List Own → Field → List ℕ
field_line path f = field_text f (is_shown path f)

-- the line `rest`: the free unnamed bits, and their defaults
abbrev pub free_line : List Own → List ℕ
free_line path = codes "rest 0x" ++ (hex 8 (free_unnamed path) ++ (codes " 0x" ++ (hex 8 (default_bits path) ++ 10 ∷ [])))

-- the lines of the visible fields in their order, and the line `rest`
abbrev pub fields_text : List Own → List ℕ
fields_text path = flat_map (field_line path) (fields path) ++ free_line path

-- all lines of leaf k
abbrev pub whole_leaf : Machine → ℕ → List ℕ
whole_leaf machine k = leaf_text machine.paths k ++ (fields_text (slice_index_or machine.paths k []) ++ alias_lines machine.aliases k)
