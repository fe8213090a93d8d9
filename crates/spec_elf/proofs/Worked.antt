-- Worked values: a file of 132 bytes with one section header, and what becomes of it where some of its bytes are others.
use Rattle.std.specs.Prelude.{◌≡◌, ℕ, List, [], ◌∷◌, ◌++◌, Some, None, replicate, take, refl}
use Rattle.spec_elf.specs.Sections.{sections}
use Rattle.spec_elf.specs.Refusal.{refusal, Magic, Machine, Entry, Table, SectionBytes, Address}

abbrev zeros : ℕ → List ℕ
zeros n = replicate n 0

-- 64 bytes: the machine, the place of the table, the size of a section header, and how many there are
abbrev header : ℕ → ℕ → ℕ → ℕ → List ℕ
header machine place size count =
    (0x7f ∷ 0x45 ∷ 0x4c ∷ 0x46 ∷ 2 ∷ 1 ∷ []) ++ (zeros 12 ++ ((machine ∷ 0 ∷ []) ++ (zeros 20 ++ ((place ∷ zeros 7) ++ (zeros 10 ++ ((size ∷ 0 ∷ []) ++ ((count ∷ 0 ∷ []) ++ zeros 2)))))))

-- a section header at an address whose eight bytes are given
abbrev section_at : List ℕ → ℕ → ℕ → ℕ → ℕ → List ℕ
section_at address kind flags offset size = zeros 4 ++ ((kind ∷ zeros 3) ++ ((flags ∷ zeros 7) ++ (address ++ ((offset ∷ zeros 7) ++ ((size ∷ zeros 7) ++ zeros 24)))))

-- 0x400000
abbrev low : List ℕ
low = 0 ∷ 0 ∷ 0x40 ∷ zeros 5

-- 2^64 - 4
abbrev high : List ℕ
high = 0xfc ∷ replicate 7 0xff

abbrev code : List ℕ
code = 0x20 ∷ 4 ∷ 0 ∷ 0x91 ∷ []

abbrev file : List ℕ
file = header 183 68 64 1 ++ (code ++ section_at low 1 6 64 4)

it_is_taken : refusal file ≡ None
it_is_taken = refl

its_section : sections file ≡ record { number = 0; address = 0x40_0000; bytes = code } ∷ []
its_section = refl

-- a section of 7 bytes, and one of 200
seven_bytes : sections (header 183 68 64 1 ++ (code ++ section_at low 1 6 64 7)) ≡ record { number = 0; address = 0x40_0000; bytes = code ++ zeros 3 } ∷ []
seven_bytes = refl

bytes_after_the_file : refusal (header 183 68 64 1 ++ (code ++ section_at low 1 6 64 200)) ≡ Some (SectionBytes 0)
bytes_after_the_file = refl

-- no bytes, but a place after the file
no_bytes_after_the_file : refusal (header 183 68 64 1 ++ (code ++ section_at low 1 6 133 0)) ≡ Some (SectionBytes 0)
no_bytes_after_the_file = refl

no_bytes_at_the_end : refusal (header 183 68 64 1 ++ (code ++ section_at low 1 6 132 0)) ≡ None
no_bytes_at_the_end = refl

-- addresses up to 2^64
too_high : refusal (header 183 68 64 1 ++ (code ++ section_at high 1 6 64 4)) ≡ Some (Address 0)
too_high = refl

highest : refusal (header 183 68 64 1 ++ (code ++ section_at high 1 6 64 3)) ≡ None
highest = refl

-- another machine, and 63 bytes of the file
other_machine : refusal (header 62 68 64 1 ++ (code ++ section_at low 1 6 64 4)) ≡ Some Machine
other_machine = refl

too_short : refusal (take 63 file) ≡ Some Magic
too_short = refl

-- section headers of another size, and a table that ends after the file
other_size : refusal (header 183 68 56 1 ++ (code ++ section_at low 1 6 64 4)) ≡ Some Entry
other_size = refl

table_after_the_file : refusal (header 183 69 64 1 ++ (code ++ section_at low 1 6 64 4)) ≡ Some Table
table_after_the_file = refl

-- a section without code, one without bytes in the file, and no section header
no_code : sections (header 183 68 64 1 ++ (code ++ section_at low 1 2 64 4)) ≡ []
no_code = refl

no_bits : sections (header 183 68 64 1 ++ (code ++ section_at low 8 6 64 4)) ≡ []
no_bits = refl

no_header : refusal (header 183 255 0 0) ≡ None
no_header = refl
