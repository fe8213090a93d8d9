-- What the items along a path say of the bits of words, gathered from the deepest one up.
use Rattle.std.specs.Prelude.{ℕ, Bool, not, ◌&&◌, nat_lt, List, Option, None, is_none, unwrap_or}
use Rattle.std.specs.Option.{option_or}
use Rattle.std.specs.List.{list_any}
use Rattle.spec_bits.specs.Item.{fixes, should_be}
use Rattle.spec_encoding.specs.Parts.{covers}
use Rattle.spec_encoding.specs.Layout.{Layout}
use Rattle.mrs_arena.specs.Flat.{FlatItem, FlatNode, with_text}
use Rattle.insn_tree.specs.Upward.{gathered}
use Rattle.insn_tree.specs.Visible.{FlatField, fields_at}

-- an item fixes bit i before deeper ones do, and says what it should be after them
abbrev pub fix_first : ℕ → FlatItem → Option ℕ → Option ℕ
fix_first i it deeper = option_or (fixes (with_text None it) i) deeper

abbrev pub should_last : ℕ → FlatItem → Option ℕ → Option ℕ
should_last i it deeper = option_or deeper (should_be (with_text None it) i)

abbrev pub fixed_at : List FlatNode → ℕ → ℕ → Option ℕ
fixed_at nodes n i = gathered (fix_first i) nodes n None

abbrev pub should_be_at : List FlatNode → ℕ → ℕ → Option ℕ
should_be_at nodes n i = gathered (should_last i) nodes n None

abbrev pub some_covers : ℕ → List FlatField → Bool
some_covers i fields = list_any (λ f. covers f.start f.width i) fields

abbrev pub layout_at : List FlatNode → ℕ → Layout
layout_at nodes n = record {
  fixed = fixed_at nodes n;
  free = λ i. nat_lt i 32 && (is_none (fixed_at nodes n i) && not (some_covers i (fields_at nodes n)));
  default = λ i. unwrap_or (should_be_at nodes n i) 0;
}
