-- The aliases of a leaf, as they are shown with it.
use Rattle.std.specs.Prelude.{ℕ, ◌+◌, ◌==◌, List, [], ◌∷◌, ◌++◌, codes, flat_map, if◌then◌else◌}
use Rattle.spec_instructions.specs.Aliases.{AliasPath, alias_label}

-- the numbers of the aliases of leaf k, in order, the first of these aliases having number a
abbrev pub numbers_from : ℕ → ℕ → List AliasPath → List ℕ
numbers_from k a [] = []
numbers_from k a (alias ∷ aliases) = if alias.leaf == k then a ∷ numbers_from k (a + 1) aliases else numbers_from k (a + 1) aliases

-- a line `alias` with the label
abbrev pub alias_line : List AliasPath → ℕ → List ℕ
alias_line aliases a = codes "alias " ++ (alias_label aliases a ++ 10 ∷ [])

-- such a line for each alias of leaf k
abbrev pub alias_lines : List AliasPath → ℕ → List ℕ
alias_lines aliases k = flat_map (alias_line aliases) (numbers_from k 0 aliases)
