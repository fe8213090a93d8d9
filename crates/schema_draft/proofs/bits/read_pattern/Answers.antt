use Rattle.std.proofs.Common.{arith}
use Rattle.std.proofs.lemmas.Grind.{common_steps}
use Rattle.bit_pattern.proofs.DigitLaws.{length-digits_below}
use Rattle.schema_draft.proofs.bits.read_pattern.Goals as goal

pub returns-in-Ok-clause-walk : goal.returns-in-Ok-clause-walk
returns-in-Ok-clause-walk c =
    let p = c.in-Ok.pattern in
    let len = length-digits_below p.mask p.value p.width in
    grind (arith, common_steps)

pub returns-in-Ok-2-clause-walk : goal.returns-in-Ok-2-clause-walk
returns-in-Ok-2-clause-walk c =
    let p = c.in-Ok-2.field-0 in
    let len = length-digits_below p.mask p.value p.width in
    grind (arith, common_steps)
