use Rattle.std.proofs.Common.{sym, ap, ℕ}
use Rattle.bit_pattern.proofs.DigitLaws.{length-digits_below}
use Rattle.ast_eval.proofs.deepest.range_of.Goals as goal

pub returns : goal.returns
returns c =
    let from : ℕ → ℕ × ℕ = λ width. (c.args.it.now.start, width) in
    sym (ap from (length-digits_below c.args.it.now.pattern.mask c.args.it.now.pattern.value c.args.it.now.pattern.width))
