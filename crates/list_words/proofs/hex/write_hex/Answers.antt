use Rattle.std.proofs.Common.{◌<◌, ◌^◌, sym, ◌∙◌, arith}
use Rattle.list_words.proofs.HexSteps.{written_next, written_last}
use Rattle.list_words.proofs.hex.write_hex.Goals as goal

pub loop-start-preserved : goal.loop-start-preserved
loop-start-preserved c =
    let low : c.loop-start.rest < 2 ^ 64 = omega arith in
    rw (c.last_digit.ensures, c.saturating_sub-left.ensures) (written_next _ _ _ _ _ _ low c.loop-start.invariant (sym c.is_one_digit.ensures ∙ c.loop-start-test.true))

pub returns-clause-digits : goal.returns-clause-digits
returns-clause-digits c =
    let low : c.loop-start.rest < 2 ^ 64 = omega arith in
    rw c.last_digit-2.ensures (written_last _ _ _ _ _ _ low c.loop-start.invariant (sym c.is_one_digit.ensures ∙ c.loop-start-test.false))
