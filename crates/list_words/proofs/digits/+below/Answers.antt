use Rattle.std.proofs.Common.{append_assoc}
use Rattle.list_words.proofs.DigitLaws.{digits_below-more}
use Rattle.list_words.proofs.digits.+below.Goals as goal

pub returns : goal.returns
returns t c =
    let rest = rw (c.in_ok-push.ensures.items, c.digit_byte.ensures, append_assoc c.args.out.now.items _ _) at c.push_digits.ensures in
    rw (digits_below-more c.args.pattern.now.mask c.args.pattern.now.value c.args.below c.if-below-eq0.false) rest
