-- What this crate's types stand for.
use Rattle.spec_elf.specs.Headers as headers
use Rattle.spec_elf.specs.Sections as sections
use Rattle.spec_elf.specs.Refusal as refusal
use Rattle.elf_words.specs.declared.header.Header.{Header}
use Rattle.elf_words.specs.declared.section.Section.{Section}
use Rattle.elf_words.specs.declared.fault.ElfFault.{ElfFault}
use Rattle.elf_words.specs.declared.fault.ElfFault.TheVariants as fault

abbrev pub header_view : Header → headers.Header
header_view h = record { number = h.number; kind = h.kind; flags = h.flags; address = h.address; offset = h.offset; size = h.size }

abbrev pub section_view : Section → sections.Section
section_view s = record { number = s.number; address = s.address; bytes = s.bytes.now }

abbrev pub refusal_of : ElfFault → refusal.Refusal
refusal_of fault.Magic = refusal.Magic
refusal_of fault.Machine = refusal.Machine
refusal_of fault.Entry = refusal.Entry
refusal_of fault.Table = refusal.Table
refusal_of (fault.Section k) = refusal.SectionBytes k
refusal_of (fault.Address k) = refusal.Address k
refusal_of fault.Total = refusal.Total
