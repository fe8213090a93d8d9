-- The bare line of a word, which is read back to the word.
use Rattle.std.specs.Prelude.{ℕ, List, [], ◌∷◌, ◌++◌, codes}
use Rattle.spec_decode.specs.Found.{Candidate, found}
use Rattle.spec_decode.specs.Machine.{Machine}
use Rattle.spec_lines.specs.Hex.{hex}
use Rattle.spec_lines.specs.Way.{Way, ByLeaf, ByAlias, written, way_of}

-- the word as a number
abbrev pub word_text : ℕ → List ℕ
word_text w = codes "word 0x" ++ hex 8 w

-- a leaf or an alias, with its fields and its rest
abbrev pub bare_way : Machine → ℕ → Way → List ℕ
bare_way machine w (ByLeaf k) = codes "leaf " ++ written machine (ByLeaf k) w
bare_way machine w (ByAlias a) = codes "alias " ++ written machine (ByAlias a) w

-- a word of a lone leaf, of whatever verdict it is, is told by the preferred alias, or else by the leaf; another word as a number
abbrev pub bare_leaves : Machine → ℕ → List Candidate → List ℕ
bare_leaves machine w [] = word_text w
bare_leaves machine w (c ∷ []) = bare_way machine w (way_of machine c.leaf w)
bare_leaves machine w (c ∷ d ∷ cs) = word_text w

-- the line without its LF, and with it
abbrev pub bare_text : Machine → ℕ → List ℕ
bare_text machine w = bare_leaves machine w (found machine.paths machine.configuration w)

abbrev pub bare_line : Machine → ℕ → List ℕ
bare_line machine w = bare_text machine w ++ 10 ∷ []
