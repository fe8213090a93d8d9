-- The fields and the rest of a word along a path, as they are printed. The path may end at an alias.
use Rattle.std.specs.Prelude.{ℕ, nat_eq, if◌then◌else◌, List, [], ◌∷◌, ◌++◌, codes, decimal, flat_map}
use Rattle.spec_instructions.specs.Tree.{Own}
use Rattle.spec_encoding.specs.PathLayout.{rest_of}
use Rattle.spec_encoding.specs.Encoding.{own_pairs}
use Rattle.spec_lines.specs.Hex.{hex}

-- a field: a space, its name, `=` and its value in decimal
abbrev pub pair_text : List ℕ × ℕ → List ℕ
pair_text pair = 32 ∷ (pair.0 ++ (61 ∷ decimal pair.1))

-- a rest: ` rest=0x` and 8 digits, and nothing where it is 0
abbrev pub rest_text : ℕ → List ℕ
rest_text rest = if nat_eq rest 0 then [] else codes " rest=0x" ++ hex 8 rest

-- each shown field of a word, in their order, and its rest
abbrev pub pairs_text : List Own → ℕ → List ℕ
pairs_text path w = flat_map pair_text (own_pairs path w) ++ rest_text (rest_of path w)
