-- Numbers in an ELF file (System V Application Binary Interface, "Object Files", the data encoding ELFDATA2LSB): the byte of least
-- worth stands first.
use Rattle.std.specs.Prelude.{ℕ, List, take, drop}
use Rattle.std.specs.Int.{w16, w32, w64, from_le_bytes}

-- the number of 2, 4 or 8 bytes that stand in a file from a place on
abbrev pub half_at : List ℕ → ℕ → ℕ
half_at file place = from_le_bytes w16 (take 2 (drop place file))

abbrev pub word_at : List ℕ → ℕ → ℕ
word_at file place = from_le_bytes w32 (take 4 (drop place file))

abbrev pub xword_at : List ℕ → ℕ → ℕ
xword_at file place = from_le_bytes w64 (take 8 (drop place file))
