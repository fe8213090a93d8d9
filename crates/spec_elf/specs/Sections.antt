-- The sections of a file that hold code.
use Rattle.std.specs.Prelude.{ℕ, Bool, ◌&&◌, nat_eq, List, filter, map, take, drop}
use Rattle.spec_bits.specs.Bits.{bit_of}
use Rattle.spec_elf.specs.Headers.{Header, headers}

-- a section is chosen where its bytes stand in the file, by its type SHT_PROGBITS, which is 1, and where it is executable, by its
-- flag SHF_EXECINSTR, which is bit 2
abbrev pub is_chosen : Header → Bool
is_chosen header = nat_eq header.kind 1 && nat_eq (bit_of header.flags 2) 1

abbrev pub chosen : List Header → List Header
chosen headers = filter is_chosen headers

-- a section: the number of its header, counted from 0, its address, and its bytes
pub record Section : Type 0 where
  pub number : ℕ
  pub address : ℕ
  pub bytes : List ℕ

abbrev pub section_of : List ℕ → Header → Section
section_of file header = record { number = header.number; address = header.address; bytes = take header.size (drop header.offset file) }

-- the chosen sections, in the order of their headers
abbrev pub sections : List ℕ → List Section
sections file = map (section_of file) (chosen (headers file))
