use Rattle.std.proofs.Common.{◌≡◌, ◌∙◌, sym, ap, ℕ, ℤ, Option, Some, arith}
use Rattle.std.specs.Int.{w128, cast_signed, cast_unsigned}
use Rattle.std.proofs.lemmas.Int.{to_z-of_z}
use Rattle.std.specs.Prelude.{FitsSigned}
use Rattle.ast_eval.specs.BitNumber.{bit_number}
use Rattle.ast_eval.proofs.SliceLaws.{between-no_high, between-no_low, between-beyond, between-some}
use Rattle.ast_eval.proofs.bits.bits_between.Goals as goal
use Rattle.ast_eval.proofs.bits.bits_between.Goals.{then-low-high-via-then-low-high, then-low-high-via-else-low-high+then-high-bits}

-- what was answered for a number that was passed
passed : (z : ℤ) (o p : Option ℕ) → FitsSigned w128 z → o ≡ bit_number (cast_signed w128 (cast_unsigned w128 z)) → o ≡ p → p ≡ bit_number z
passed z o p fits answer is = sym is ∙ answer ∙ ap bit_number (to_z-of_z w128 z fits)

pub returns-in_default : goal.returns-in_default
returns-in_default c = between-no_high c.args.bits.now c.args.high c.args.low (passed c.args.high _ _ c.ranges.high c.bit_number.ensures c.in_default.is)

pub returns-in_default-bit_number : goal.returns-in_default-bit_number
returns-in_default-bit_number c =
    between-no_low c.args.bits.now c.args.high c.args.low c.in-Some.high (passed c.args.high _ _ c.ranges.high c.bit_number.ensures c.in-Some.is)
    (passed c.args.low _ _ c.ranges.low c.bit_number-2.ensures c.in_default-bit_number.is)

pub returns-then-low-high : goal.returns-then-low-high
returns-then-low-high c =
    between-beyond c.args.bits.now c.args.high c.args.low c.in-Some.high c.in-Some-bit_number.low (passed c.args.high _ _ c.ranges.high c.bit_number.ensures c.in-Some.is)
    (passed c.args.low _ _ c.ranges.low c.bit_number-2.ensures c.in-Some-bit_number.is)
    (elim c.then-low-high.branch [ then-low-high-via-then-low-high w ↦ λ up. absurd (omega arith) | then-low-high-via-else-low-high+then-high-bits w ↦ λ up. omega arith ])

pub returns : goal.returns
returns c =
    ap Some c.part.ensures
    ∙ between-some c.args.bits.now c.args.high c.args.low c.in-Some.high c.in-Some-bit_number.low (passed c.args.high _ _ c.ranges.high c.bit_number.ensures c.in-Some.is)
    (passed c.args.low _ _ c.ranges.low c.bit_number-2.ensures c.in-Some-bit_number.is) c.if-low-high.false c.if-high-bits.false
