-- The aliases of an arena, as those of the set that it stands for, by the texts of names.
use Rattle.std.specs.Prelude.{ℕ, ◌==◌, List, [], drop, Option}
use Rattle.std.specs.List.{position_from}
use Rattle.spec_instructions.specs.Aliases.{AliasPath}
use Rattle.mrs_arena.specs.Placed.{no_own}
pub use Rattle.mrs_arena.specs.AliasPaths.{alias_by, aliases_by}

-- stands where there is no alias
abbrev pub no_alias : AliasPath
no_alias = record { leaf = 0; above = []; own = no_own }

-- the number of the first alias of leaf l from number a on
abbrev pub alias_from : List AliasPath → ℕ → ℕ → Option ℕ
alias_from aliases l a = position_from (λ alias. alias.leaf == l) a (drop a aliases)
