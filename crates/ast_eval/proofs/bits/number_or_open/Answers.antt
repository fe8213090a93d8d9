use Rattle.std.proofs.Common.{◌≡◌, ◌∙◌, sym, ap, ℕ, ◌<◌, ◌≤◌, ◌^◌, pos, Some, None, arith}
use Rattle.std.specs.Int.{w128, cast_signed}
use Rattle.std.proofs.lemmas.Int.{to_z_pos}
use Rattle.std.proofs.Math.Pow.{pow_mono}
use Rattle.spec_expressions.specs.Operations.{ANumber}
use Rattle.ast_eval.proofs.BitsLaws.{unsigned-wide, unsigned-narrow}
use Rattle.ast_eval.proofs.bits.number_or_open.Goals as goal

-- a number of at most 64 bits is none below 0
not_below : (n width : ℕ) → width ≤ 64 → n < 2 ^ width → cast_signed w128 n ≡ pos n
not_below n width narrow below = to_z_pos w128 n (omega (arith, pow_mono {i = width} {j = 64} narrow, below))

pub returns-then-bits-gt-MOST_UNSIGNED : goal.returns-then-bits-gt-MOST_UNSIGNED
returns-then-bits-gt-MOST_UNSIGNED c = unsigned-wide c.args.bits.now c.if-bits-gt-MOST_UNSIGNED.true

pub returns-in-Some : goal.returns-in-Some
returns-in-Some c =
    ap ANumber (not_below c.in-Some.number c.args.bits.now.width c.if-bits-gt-MOST_UNSIGNED.false c.in-Some.ensures.fits)
    ∙ unsigned-narrow c.args.bits.now c.if-bits-gt-MOST_UNSIGNED.false (Some c.in-Some.number) (sym c.in-Some.is ∙ c.number.ensures.number)

pub returns-in-None : goal.returns-in-None
returns-in-None c = unsigned-narrow c.args.bits.now c.if-bits-gt-MOST_UNSIGNED.false None (sym c.in-None.is ∙ c.number.ensures.number)
