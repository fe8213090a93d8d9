use Rattle.std.proofs.Common.{◌≡◌, ◌≤◌, ◌*◌, ◌^◌, length}
use Rattle.spec_elf.specs.Headers.{headers}
use Rattle.elf_words.specs.Left.{refused_behind, headers_left}
use Rattle.elf_words.proofs.checking.section_refusal.Given as goal

-- what is left gives what the whole gives
abbrev pub invariant-loop-number : goal.invariant-loop-number
invariant-loop-number l = record {
  left : refused_behind (length l.file) l.total (headers_left l.file l.number) ≡ refused_behind (length l.file) 0 (headers l.file);
  few : l.total ≤ l.number * 2 ^ 64;
}
