-- The ELF header and the section headers of a file (System V Application Binary Interface, "ELF Header" and "Sections"; the sizes
-- and places are those of 64-bit objects, ELF-64 Object File Format). The names of the fields are given beside each.
use Rattle.std.specs.Prelude.{ℕ, zero, suc, ◌+◌, ◌*◌, List, [], ◌∷◌}
use Rattle.spec_elf.specs.Numbers.{half_at, word_at, xword_at}

-- e_machine, and the machine of AArch64, EM_AARCH64
abbrev pub machine : List ℕ → ℕ
machine file = half_at file 18

abbrev pub aarch64 : ℕ
aarch64 = 183

-- e_shoff: where the table of section headers stands; e_shentsize: how long each is; e_shnum: how many there are
abbrev pub table_place : List ℕ → ℕ
table_place file = xword_at file 40

abbrev pub header_size : List ℕ → ℕ
header_size file = half_at file 58

abbrev pub header_count : List ℕ → ℕ
header_count file = half_at file 60

-- a section header of 64 bytes: its number, sh_type, sh_flags, sh_addr, sh_offset and sh_size
pub record Header : Type 0 where
  pub number : ℕ
  pub kind : ℕ
  pub flags : ℕ
  pub address : ℕ
  pub offset : ℕ
  pub size : ℕ

abbrev pub header_at : List ℕ → ℕ → ℕ → Header
header_at file number place = record {
  number = number;
  kind = word_at file (place + 4);
  flags = xword_at file (place + 8);
  address = xword_at file (place + 16);
  offset = xword_at file (place + 24);
  size = xword_at file (place + 32);
}

-- the header of that number
abbrev pub header_of : List ℕ → ℕ → Header
header_of file number = header_at file number (table_place file + 64 * number)

-- so many headers, from that number on
abbrev pub headers_from : List ℕ → ℕ → ℕ → List Header
headers_from file number zero = []
headers_from file number (suc count) = header_of file number ∷ headers_from file (number + 1) count

-- all of them, in order
abbrev pub headers : List ℕ → List Header
headers file = headers_from file 0 (header_count file)
