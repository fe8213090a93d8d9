use Rattle.std.proofs.Common.{sym, ap, ◌∙◌, ◌+◌, ◌∷◌, length, arith}
use Rattle.elf_words.specs.Left.{sections_left}
use Rattle.elf_words.proofs.SectionLaws.{section_next, section_passed, section_fits, later_fit, none_left}
use Rattle.elf_words.proofs.sections.SectionsIterator.next.Goals as goal

pub section_of-requires : goal.section_of-requires
section_of-requires c =
    let table = c.headers.invariant.table c.headers-test.true in
    section_fits c.headers.self-inside.file.now c.headers.self-inside.table c.headers.self-inside.number c.headers.self-inside.count c.header_at-header.result c.headers-test.true c.headers.invariant.all table.0 c.header_at-header.ensures (sym c.is_chosen.ensures ∙ c.if-is_chosen.true) c.headers.invariant.within

pub invariant_of-self-then-is_chosen : goal.invariant_of-self-then-is_chosen
invariant_of-self-then-is_chosen c =
    let table = c.headers.invariant.table c.headers-test.true in
    let more = c.headers-test.true in (
      c.headers.invariant.all,
      omega arith,
      c.headers.invariant.few,
      λ lt. table,
      later_fit c.headers.self-inside.file.now c.headers.self-inside.table c.headers.self-inside.number c.headers.self-inside.count c.header_at-header.result c.headers-test.true c.headers.invariant.all table.0 c.header_at-header.ensures c.headers.invariant.within,
    )

pub returns-then-is_chosen-clause-steps : goal.returns-then-is_chosen-clause-steps
returns-then-is_chosen-clause-steps c =
    let table = c.headers.invariant.table c.headers-test.true in
    sym c.headers.invariant.left
    ∙ section_next c.headers.self-inside.file.now c.headers.self-inside.table c.headers.self-inside.number c.headers.self-inside.count c.header_at-header.result c.headers-test.true c.headers.invariant.all table.0 c.header_at-header.ensures (sym c.is_chosen.ensures ∙ c.if-is_chosen.true)
    ∙ ap (λ s. s ∷ sections_left c.headers.self-inside.file.now (c.headers.self-inside.number + 1)) (sym c.section_of.ensures)

pub returns-then-is_chosen-clause-goes : goal.returns-then-is_chosen-clause-goes
returns-then-is_chosen-clause-goes c =
    let fewer = ap length (returns-then-is_chosen-clause-steps c) in
    record { on = λ f. (tt, tt, omega (arith, fewer)); keeps = tt; rests = λ f. tt }

pub headers-preserved : goal.headers-preserved
headers-preserved c =
    let table = c.headers.invariant.table c.headers-test.true in
    let more = c.headers-test.true in record {
      left = sym (section_passed c.headers.self-inside.file.now c.headers.self-inside.table c.headers.self-inside.number c.headers.self-inside.count c.header_at-header.result c.headers-test.true c.headers.invariant.all table.0 c.header_at-header.ensures (sym c.is_chosen.ensures ∙ c.if-is_chosen.false)) ∙ c.headers.invariant.left;
      all = c.headers.invariant.all;
      number = omega arith;
      few = c.headers.invariant.few;
      table = λ lt. table;
      within = later_fit c.headers.self-inside.file.now c.headers.self-inside.table c.headers.self-inside.number c.headers.self-inside.count c.header_at-header.result c.headers-test.true c.headers.invariant.all table.0 c.header_at-header.ensures c.headers.invariant.within;
    }

pub returns-clause-steps : goal.returns-clause-steps
returns-clause-steps c =
    let none = none_left c.headers.self-inside.file.now c.headers.self-inside.number c.headers.self-inside.count c.headers.invariant.all c.headers-test.false in
    (sym c.headers.invariant.left ∙ none, none)
