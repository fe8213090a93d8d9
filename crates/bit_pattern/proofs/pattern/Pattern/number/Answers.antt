use Rattle.std.proofs.Common.{◌∙◌, sym, arith}
use Rattle.bit_pattern.proofs.DigitLaws.{inside_le}
use Rattle.bit_pattern.proofs.KnownLaws.{number-ones, number-others}
use Rattle.bit_pattern.proofs.pattern.Pattern.number.Goals as goal

pub returns-then-self-ones-clause-number : goal.returns-then-self-ones-clause-number
returns-then-self-ones-clause-number c =
    number-ones c.args.self.now.mask c.args.self.now.value c.args.self.now.width (c.if-self-ones.true ∙ c.ones.ensures) c.args.self.now.mask_fits c.args.self.now.value_in_mask

pub returns-else-self-ones-clause-number : goal.returns-else-self-ones-clause-number
returns-else-self-ones-clause-number c = number-others c.args.self.now.mask c.args.self.now.value c.args.self.now.width (λ e. c.if-self-ones.false (e ∙ sym c.ones.ensures)) c.args.self.now.mask_fits

pub returns-then-self-ones-clause-fits : goal.returns-then-self-ones-clause-fits
returns-then-self-ones-clause-fits c = omega (arith, inside_le c.args.self.now.value c.args.self.now.mask c.args.self.now.value_in_mask, c.args.self.now.mask_fits)
