use Rattle.std.proofs.Common.{sym, ◌+◌, ◌∙◌, arith}
use Rattle.elf_words.specs.Left.{headers_left}
use Rattle.elf_words.proofs.HeaderLaws.{refused_next}
use Rattle.elf_words.proofs.checking.section_refusal.Goals as goal

pub returns-in-Err : goal.returns-in-Err
returns-in-Err c =
    sym (c.in-Err.ensures (headers_left c.args.file.now (c.loop-number.number + 1)))
    ∙ sym (refused_next c.args.file.now c.args.table c.loop-number.number c.args.count c.loop-number.total c.header_at.result c.loop-number-test.true c.requires.table c.requires.count c.header_at.ensures)
    ∙ c.loop-number.invariant.left

pub loop-number-preserved : goal.loop-number-preserved
loop-number-preserved c = record {
  left =
      sym (c.in-Ok.ensures.0 (headers_left c.args.file.now (c.loop-number.number + 1)))
      ∙ sym (refused_next c.args.file.now c.args.table c.loop-number.number c.args.count c.loop-number.total c.header_at.result c.loop-number-test.true c.requires.table c.requires.count c.header_at.ensures)
      ∙ c.loop-number.invariant.left;
  few = let le = c.in-Ok.ensures.1 in let before = c.loop-number.invariant.few in grind arith;
}
