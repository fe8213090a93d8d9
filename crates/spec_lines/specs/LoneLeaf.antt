-- A leaf at which a word is found alone.
use Rattle.std.specs.Prelude.{ℕ, List, ◌++◌, codes}
use Rattle.spec_instructions.specs.Paths.{label}
use Rattle.spec_decode.specs.Machine.{Machine}
use Rattle.spec_lines.specs.Way.{Way, ByLeaf, ByAlias, written, way_of}

-- the leaf's label, fields and rest; where an alias is preferred, the label, and behind it the alias with its fields and rest
abbrev pub lone_by : Machine → ℕ → ℕ → Way → List ℕ
lone_by machine k w (ByLeaf l) = written machine (ByLeaf l) w
lone_by machine k w (ByAlias a) = label machine.paths k ++ (codes " alias " ++ written machine (ByAlias a) w)

-- leaf k
abbrev pub lone_leaf : Machine → ℕ → ℕ → List ℕ
lone_leaf machine k w = lone_by machine k w (way_of machine k w)
