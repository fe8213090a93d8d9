-- What is shown of a leaf: its label, the names along its path, and the bits that its path fixes.
use Rattle.std.specs.Prelude.{ℕ, List, [], ◌∷◌, ◌++◌, Option, Some, None, codes, flat_map, map, slice_index_or}
use Rattle.spec_bits.specs.Pattern.{Digit, Zero, One, Either}
use Rattle.spec_instructions.specs.Tree.{Own}
use Rattle.spec_instructions.specs.Paths.{label}
use Rattle.spec_instructions.specs.Fields.{merged}

abbrev pub digit_text : Digit → ℕ
digit_text Zero = 48
digit_text One = 49
digit_text Either = 120

-- 32 digits, or the word `clash` where two items of the path fix a bit to different values
abbrev pub bits_text : Option (List Digit) → List ℕ
bits_text None = codes "clash"
bits_text (Some digits) = map digit_text digits

-- the lines `leaf LABEL`, `path` with the names from the root, and `bits`
abbrev pub leaf_lines : List (List Own) → ℕ → List Own → List ℕ
leaf_lines paths k path =
    codes "leaf " ++ (label paths k ++ (10 ∷
    (codes "path" ++ (flat_map (λ own. 32 ∷ own.name) path ++ (10 ∷
    (codes "bits " ++ (bits_text (merged path) ++ 10 ∷ [])))))))

-- those of leaf k
abbrev pub leaf_text : List (List Own) → ℕ → List ℕ
leaf_text paths k = leaf_lines paths k (slice_index_or paths k [])
