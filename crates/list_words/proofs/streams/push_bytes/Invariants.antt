use Rattle.std.proofs.Common.{◌≡◌, ◌++◌, drop}
use Rattle.std.specs.Prelude.{flat_map}
use Rattle.spec_lines.specs.Hex.{hex}
use Rattle.list_words.proofs.streams.push_bytes.Given as goal

abbrev pub invariant-loop-byte : goal.invariant-loop-byte
invariant-loop-byte l = l.out.items ++ flat_map (hex 2) (drop l.byte-index l.bytes) ≡ l.initial.out.items ++ flat_map (hex 2) l.bytes
