-- What the items along a path fix, gathered from the deepest one up.
use Rattle.std.specs.Prelude.{ℕ, List, Option, Some, None, option_and_then, replicate}
use Rattle.spec_bits.specs.Pattern.{Digit, Either, joined}
use Rattle.spec_instructions.specs.Fields.{word_digits}
use Rattle.mrs_arena.specs.Flat.{FlatItem, FlatNode, with_text}
use Rattle.mrs_arena.specs.Nodes.{node_items}
use Rattle.insn_tree.specs.Upward.{onto, gathered}

abbrev pub join_item : FlatItem → Option (List Digit) → Option (List Digit)
join_item it deeper = option_and_then (joined (word_digits (with_text None it))) deeper

abbrev pub merged_at : List FlatNode → ℕ → Option (List Digit)
merged_at nodes n = gathered join_item nodes n (Some (replicate 32 Either))

-- what the items of node n itself fix
abbrev pub own_merged_at : List FlatNode → ℕ → Option (List Digit)
own_merged_at nodes n = onto join_item (node_items nodes n) (Some (replicate 32 Either))
