use Rattle.std.proofs.Common.{◌-◌, ◌≡◌, ◌≤◌, ◌+◌, ◌*◌, ◌<◌, ◌^◌, length}
use Rattle.spec_elf.specs.Headers.{header_count, table_place}
use Rattle.elf_words.specs.Left.{sections_left, headers_left, AreWithin}
use Rattle.elf_words.proofs.sections.SectionsIterator.next.Given as goal

-- the headers that are passed over are of no section
abbrev pub invariant-headers : goal.invariant-headers
invariant-headers l = record {
  left : sections_left l.self-inside.file.now l.self-inside.number ≡ l.fn.self;
  all : l.self-inside.count ≡ header_count l.self-inside.file.now;
  number : l.self-inside.number ≤ l.self-inside.count;
  few : l.self-inside.count < 2 ^ 16;
  table : l.self-inside.number < l.self-inside.count → (l.self-inside.table ≡ table_place l.self-inside.file.now) × (l.self-inside.table + 64 * l.self-inside.count ≤ length l.self-inside.file.now);
  within : AreWithin l.self-inside.file.now (headers_left l.self-inside.file.now l.self-inside.number);
}

abbrev pub decreases-headers : goal.decreases-headers
decreases-headers l = l.self-inside.count - l.self-inside.number
