use Rattle.std.proofs.Common.{◌∙◌}
use Rattle.number_text.proofs.DigitLaws.{refused}
use Rattle.number_text.proofs.digits.digits_below.Goals as goal

pub returns-in_err-number : goal.returns-in_err-number
returns-in_err-number c = c.from_residual-in_err-number.ensures ∙ refused c.args.base c.args.bound c.loop-byte.number c.in_ok-digit.digit c.loop-byte.byte-index c.args.text.now c.requires c.loop-byte-test.true c.in_ok-digit.ensures c.in_err-number.ensures c.loop-byte.invariant
