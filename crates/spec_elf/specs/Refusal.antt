-- Why a file is refused: the first of these causes that holds. Sums are of whole numbers, so nothing wraps.
use Rattle.std.specs.Prelude.{ℕ, ◌+◌, ◌-◌, ◌*◌, ◌^◌, Bool, not, ◌&&◌, nat_lt, nat_eq, List, [], ◌∷◌, ◌++◌, length, map, Option, Some, None, if◌then◌else◌}
use Rattle.std.specs.List.{starts_with, sum}
use Rattle.spec_elf.specs.Headers.{Header, machine, aarch64, table_place, header_size, header_count, headers}
use Rattle.spec_elf.specs.Sections.{chosen}

-- what is refused: the first bytes, the machine, the size of a section header, the place of their table; of the section of that
-- number the place of its bytes, or its addresses; or how many bytes all sections have
pub data Refusal : Type 0 where
  Magic : Refusal
  Machine : Refusal
  Entry : Refusal
  Table : Refusal
  SectionBytes : ℕ → Refusal
  Address : ℕ → Refusal
  Total : Refusal

-- a cause: whether it holds, and the refusal where it does
pub record Cause : Type 0 where
  pub holds : Bool
  pub refusal : Refusal

-- the first that holds
abbrev pub first_refusal : List Cause → Option Refusal
first_refusal [] = None
first_refusal (cause ∷ causes) = if cause.holds then Some cause.refusal else first_refusal causes

-- an ELF header is 64 bytes long, and begins with 0x7f, `ELF`, the class ELFCLASS64 and the data encoding ELFDATA2LSB
abbrev pub magic : List ℕ
magic = 0x7f ∷ 0x45 ∷ 0x4c ∷ 0x46 ∷ 2 ∷ 1 ∷ []

abbrev pub has_header : List ℕ → Bool
has_header file = not (nat_lt (length file) 64) && starts_with nat_eq file magic

-- the bytes of a chosen section end after those of the file, which is so long, or else its addresses after the greatest number of 64 bits
abbrev pub causes_of : ℕ → List Header → List Cause
causes_of bytes [] = []
causes_of bytes (header ∷ headers) =
    record { holds = nat_lt bytes (header.offset + header.size); refusal = SectionBytes header.number }
    ∷ (record { holds = nat_lt (2 ^ 64 - 1) (header.address + header.size); refusal = Address header.number }
    ∷ causes_of bytes headers)

-- the bytes of all chosen sections together, and how many there may be
abbrev pub total : List Header → ℕ
total headers = sum (map (λ header. header.size) headers)

abbrev pub most : ℕ
most = 2 ^ 32

-- those of the sections, in order, and then that of their total
abbrev pub causes_of_all : ℕ → List Header → List Cause
causes_of_all bytes headers = causes_of bytes headers ++ (record { holds = nat_lt most (total headers); refusal = Total } ∷ [])

-- where there are section headers, those of the table and of the sections in it
abbrev pub table_causes : List ℕ → List Cause
table_causes file =
    record { holds = not (nat_eq (header_size file) 64); refusal = Entry }
    ∷ (record { holds = nat_lt (length file) (table_place file + 64 * header_count file); refusal = Table }
    ∷ causes_of_all (length file) (chosen (headers file)))

abbrev pub causes : List ℕ → List Cause
causes file =
    record { holds = not (has_header file); refusal = Magic }
    ∷ (record { holds = not (nat_eq (machine file) aarch64); refusal = Machine }
    ∷ (if nat_eq (header_count file) 0 then [] else table_causes file))

-- why a file is refused; none where it is not
abbrev pub refusal : List ℕ → Option Refusal
refusal file = first_refusal (causes file)
