-- What a line tells a word by: a leaf, or an alias of one, with the fields and the rest of its path.
use Rattle.std.specs.Prelude.{ℕ, List, [], ◌++◌, Option, Some, None, slice_index_or}
use Rattle.spec_instructions.specs.Tree.{Own}
use Rattle.spec_instructions.specs.Paths.{label}
use Rattle.spec_instructions.specs.Aliases.{alias_paths, alias_label}
use Rattle.spec_decode.specs.Preferred.{preferred}
use Rattle.spec_decode.specs.Machine.{Machine}
use Rattle.spec_lines.specs.Pairs.{pairs_text}

-- a leaf or an alias, by its number
pub data Way : Type 0 where
  ByLeaf : ℕ → Way
  ByAlias : ℕ → Way

-- the path to it
abbrev pub way_path : Machine → Way → List Own
way_path machine (ByLeaf k) = slice_index_or machine.paths k []
way_path machine (ByAlias a) = slice_index_or (alias_paths machine.aliases) a []

-- its label
abbrev pub way_label : Machine → Way → List ℕ
way_label machine (ByLeaf k) = label machine.paths k
way_label machine (ByAlias a) = alias_label machine.aliases a

-- its label, and the fields and the rest that a word has along its path
abbrev pub written : Machine → Way → ℕ → List ℕ
written machine way w = way_label machine way ++ pairs_text (way_path machine way) w

-- a word of leaf k is told by the alias that is preferred, and where none is, by the leaf
abbrev pub way_by : ℕ → Option ℕ → Way
way_by k None = ByLeaf k
way_by k (Some a) = ByAlias a

abbrev pub way_of : Machine → ℕ → ℕ → Way
way_of machine k w = way_by k (preferred machine.aliases k machine.configuration w)
