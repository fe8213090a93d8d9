use Rattle.std.proofs.Common.{◌≡◌, ◌+◌, ◌++◌, drop, length}
use Rattle.std.specs.Prelude.{filter_map}
use Rattle.spec_bits.specs.PatternText.{digit_of}
use Rattle.bit_pattern.specs.Digits.{digits_below}
use Rattle.bit_pattern.proofs.reading.prefix_of.Given as goal

-- the digits read so far and those of the bytes that are left are the digits of all bytes
abbrev pub invariant-loop-byte : goal.invariant-loop-byte
invariant-loop-byte l = record {
  digits : digits_below l.digits.mask l.digits.value l.digits.width ++ filter_map digit_of (drop l.byte-index l.bytes) ≡ filter_map digit_of l.bytes;
  width : l.digits.width + length (filter_map digit_of (drop l.byte-index l.bytes)) ≡ length (filter_map digit_of l.bytes);
}
