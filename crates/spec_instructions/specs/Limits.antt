-- The limits on items.
use Rattle.std.specs.Prelude.{ℕ}

-- the most items of one node, and the most named items of a node and those above it
abbrev pub item_limit : ℕ
item_limit = 64

abbrev pub named_limit : ℕ
named_limit = 256
