-- What is left of a file's headers, once some were looked at.
use Rattle.std.specs.Prelude.{◌≡◌, ◌≤◌, ℕ, ◌+◌, ◌-◌, ◌^◌, nat_lt, List, [], ◌∷◌, ◌++◌, length, map, All, Option, Some, Result, Ok, Err}
use Rattle.spec_elf.specs.Headers.{Header, headers_from, header_count}
use Rattle.spec_elf.specs.Sections.{Section, chosen, section_of}
use Rattle.spec_elf.specs.Refusal.{Refusal, Total, first_refusal, causes_of, total, most}
use Rattle.elf_words.specs.declared.fault.ElfFault.{ElfFault}
use Rattle.elf_words.specs.Views.{refusal_of}

-- why a file of so many bytes is refused by these headers, where sections before them have so many bytes together
abbrev pub refused_behind : ℕ → ℕ → List Header → Option Refusal
refused_behind bytes before headers =
    first_refusal (causes_of bytes (chosen headers) ++ (record { holds = nat_lt most (before + total (chosen headers)); refusal = Total } ∷ []))

-- with a header more, the sections have so many bytes together, or the file is refused
abbrev pub Adds : ℕ → ℕ → Header → Result ℕ ElfFault → Type 0
Adds bytes before header (Ok after) = ((later : List Header) → refused_behind bytes before (header ∷ later) ≡ refused_behind bytes after later) × (after ≤ before + 2 ^ 64)
Adds bytes before header (Err fault) = (later : List Header) → refused_behind bytes before (header ∷ later) ≡ Some (refusal_of fault)

-- the headers from that number on
abbrev pub headers_left : List ℕ → ℕ → List Header
headers_left file number = headers_from file number (header_count file - number)

-- the chosen sections among them
abbrev pub sections_left : List ℕ → ℕ → List Section
sections_left file number = map (section_of file) (chosen (headers_left file number))

-- the bytes of each of them stand in the file
abbrev pub AreWithin : List ℕ → List Header → Type 0
AreWithin file headers = All (λ header. header.offset + header.size ≤ length file) (chosen headers)
