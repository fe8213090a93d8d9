-- The full line of a word: its offset, the word, and the leaves at which it is found. A lone leaf has its fields and its rest
-- behind it, and each of several leaves has its verdict.
use Rattle.std.specs.Prelude.{ℕ, List, [], ◌∷◌, ◌++◌, codes, flat_map}
use Rattle.spec_expressions.specs.Truth.{Truth, Yes, No, Open}
use Rattle.spec_instructions.specs.Tree.{Own}
use Rattle.spec_instructions.specs.Paths.{label}
use Rattle.spec_decode.specs.Found.{Candidate, found}
use Rattle.spec_decode.specs.Machine.{Machine}
use Rattle.spec_lines.specs.Hex.{hex}
use Rattle.spec_lines.specs.LoneLeaf.{lone_leaf}

-- the word before the label of a lone leaf: its conditions are all true, or some are not known. No leaf is found whose verdict is No
abbrev pub lone_text : Truth → List ℕ
lone_text Yes = codes "one "
lone_text Open = codes "open "
lone_text No = codes "none "

-- the word behind the label of one of several leaves
abbrev pub verdict_text : Truth → List ℕ
verdict_text Yes = codes " yes"
verdict_text Open = codes " open"
verdict_text No = codes " no"

-- one of several leaves
abbrev pub candidate : List (List Own) → Candidate → List ℕ
candidate paths c = 32 ∷ (label paths c.leaf ++ verdict_text c.verdict)

-- a word at no leaf, at one, or at several
abbrev pub leaves_text : Machine → ℕ → List Candidate → List ℕ
leaves_text machine w [] = codes "none"
leaves_text machine w (c ∷ []) = lone_text c.verdict ++ lone_leaf machine c.leaf w
leaves_text machine w (c ∷ d ∷ cs) = codes "many" ++ flat_map (candidate machine.paths) (c ∷ d ∷ cs)

-- the offset in the stream as at least 8 digits, the word as 8 digits, and what it is; each line ends with LF
abbrev pub full_line : Machine → ℕ → ℕ → List ℕ
full_line machine offset w = hex 8 offset ++ (32 ∷ (hex 8 w ++ (32 ∷ (leaves_text machine w (found machine.paths machine.configuration w) ++ 10 ∷ []))))
