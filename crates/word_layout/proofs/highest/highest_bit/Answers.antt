use Rattle.std.proofs.Common.{◌∙◌, sym, ap, ◌<◌, arith}
use Rattle.spec_encoding.specs.Parts.{highest}
use Rattle.word_layout.specs.Masks.{has_bit}
use Rattle.word_layout.proofs.MaskLaws.{highest-zero, highest-leading}
use Rattle.word_layout.proofs.highest.highest_bit.Goals as goal

pub returns-then-m-eq0 : goal.returns-then-m-eq0
returns-then-m-eq0 c = sym highest-zero ∙ ap (λ m. highest (has_bit m) 32) (sym c.if-m-eq0.true)

pub returns : goal.returns
returns c =
    let some : 0 < c.args.m = omega (arith, c.if-m-eq0.false) in
    sym (highest-leading c.args.m some c.ranges.m.fits)
