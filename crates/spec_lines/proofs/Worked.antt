-- Worked values: lines over two small leaves.
use Rattle.std.specs.Prelude.{◌≡◌, ℕ, List, [], ◌∷◌, None, Some, map, false, codes, refl}
use Rattle.std.specs.Fmt.{digits}
use Rattle.spec_bits.specs.Pattern.{Digit, Zero, One}
use Rattle.spec_bits.specs.Item.{Item}
use Rattle.spec_instructions.specs.Kind.{Set, Leaf}
use Rattle.spec_instructions.specs.Tree.{Own, Node, node, no_nodes, more, bare}
use Rattle.spec_expressions.specs.Expression.{Name}
use Rattle.spec_instructions.specs.Paths.{paths_from}
use Rattle.spec_decode.specs.Machine.{Machine}
use Rattle.spec_lines.specs.FullLine.{full_line}
use Rattle.spec_lines.specs.Leaf.{leaf_text}

-- bits without a name, none of them should-be
abbrev bits : ℕ → List Digit → Item
bits start digits = record { name = None; start = start; digits = digits; marks = map (λ _. false) digits }

abbrev leaf : List ℕ → List Item → List Own
leaf name items = record (bare Leaf name) { items = items } ∷ []

-- `ADD_64_addsub_imm` by its bits 31 to 23, and two leaves of one name that fix bit 0
abbrev machine : Machine
machine = record {
  configuration = record { parameters = []; atoms = [] };
  paths = leaf (codes "ADD_64_addsub_imm") (bits 26 (One ∷ Zero ∷ Zero ∷ []) ∷ bits 31 (One ∷ []) ∷ bits 23 (Zero ∷ One ∷ Zero ∷ []) ∷ [])
      ∷ leaf (codes "DUP") (bits 28 (Zero ∷ Zero ∷ Zero ∷ Zero ∷ []) ∷ [])
      ∷ leaf (codes "DUP") (bits 27 (Zero ∷ Zero ∷ Zero ∷ Zero ∷ Zero ∷ []) ∷ [])
      ∷ (record (bare Leaf (codes "FEATURED")) { items = bits 28 (One ∷ One ∷ One ∷ One ∷ []) ∷ []; condition = Some (Name (codes "FEAT_A")) } ∷ [])
      ∷ leaf (codes "ALL_ONES") (bits 24 (One ∷ One ∷ One ∷ One ∷ One ∷ One ∷ One ∷ One ∷ []) ∷ [])
      ∷ [];
  aliases = [];
}

two_leaves : full_line machine 0x1_0000_0000 0 ≡ codes "100000000 00000000 many DUP#1 yes DUP#2 yes\n"
unfolding digits
two_leaves = refl

-- the feature of one of them is not known
one_of_two_open : full_line machine 0 0xffff_ffff ≡ codes "00000000 ffffffff many FEATURED open ALL_ONES yes\n"
unfolding digits
one_of_two_open = refl

-- the set `A64` whose children are two leaves of one name, all without items
abbrev namesakes : Node
namesakes = node (bare Set (codes "A64")) (more (node (bare Leaf (codes "DUP")) no_nodes) (more (node (bare Leaf (codes "DUP")) no_nodes) no_nodes))

second_namesake : leaf_text (paths_from [] namesakes) 1 ≡ codes "leaf DUP#1\npath A64 DUP\nbits xxxxxxxxxxxxxxxxxxxxxxxxxxxxxxxx\n"
unfolding digits
second_namesake = refl

-- bits that are fixed on the path, and bits that two items fix to different values
fixed_bits : leaf_text machine.paths 0 ≡ codes "leaf ADD_64_addsub_imm\npath ADD_64_addsub_imm\nbits 1xx100010xxxxxxxxxxxxxxxxxxxxxxx\n"
unfolding digits
fixed_bits = refl

clash : leaf_text (leaf (codes "l") (bits 0 (Zero ∷ []) ∷ bits 0 (One ∷ []) ∷ []) ∷ []) 0 ≡ codes "leaf l\npath l\nbits clash\n"
unfolding digits
clash = refl
