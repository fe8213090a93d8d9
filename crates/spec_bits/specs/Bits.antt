-- Bits of numbers, after the bit slices `x<i>` and `x<i:j>` of Arm's pseudocode (Arm Architecture Reference Manual, DDI 0487).
use Rattle.std.specs.Prelude.{ℕ, ◌/◌, ◌%◌, ◌^◌}

-- bit i of a number, the lowest being bit 0: floor(w / 2^i) mod 2
abbrev pub bit_of : ℕ → ℕ → ℕ
bit_of w i = w / 2 ^ i % 2

-- the `width` bits of a number from bit `start` up, as a number: floor(w / 2^start) mod 2^width
abbrev pub slice : ℕ → ℕ → ℕ → ℕ
slice w start width = w / 2 ^ start % 2 ^ width
