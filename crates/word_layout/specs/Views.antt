-- What this crate's types stand for.
use Rattle.std.specs.Prelude.{ℕ, Option}
use Rattle.spec_bits.specs.Bits.{bit_of}
use Rattle.spec_encoding.specs.Parts.{Part}
use Rattle.spec_encoding.specs.Layout.{Layout, LayoutNumbers}
use Rattle.bit_pattern.specs.declared.range.Range.{Range}
use Rattle.word_layout.specs.Masks.{has_bit, fixed_by}
use Rattle.word_layout.specs.declared.fixed_bits.FixedBits.{FixedBits}
use Rattle.word_layout.specs.declared.layout.WordLayout.{WordLayout}

abbrev pub fixed_in : FixedBits → ℕ → Option ℕ
fixed_in b i = fixed_by b.mask b.value i

abbrev pub layout_of : WordLayout → Layout
layout_of b = record { fixed = fixed_by b.mask b.value; free = has_bit b.free; default = bit_of b.default }

-- a value for the bits of a range
abbrev pub part_of : Range → ℕ → Part
part_of range value = record { start = range.start; width = range.width; value = value }

abbrev pub numbers_of : WordLayout → LayoutNumbers
numbers_of b = record { mask = b.mask; value = b.value; free = b.free; default = b.default }
