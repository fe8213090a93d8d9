use Rattle.std.proofs.Common.{◌≡◌, ◌∙◌, sym, ap, ◌+◌, ◌++◌, length, length-append, nat_le, true, false, cond, Some, None, arith}
use Rattle.std.proofs.lemmas.Bool.Decides.{nat_tests}
use Rattle.bit_pattern.specs.Views.{digits_of}
use Rattle.bit_pattern.specs.declared.pattern.Pattern.{Pattern}
use Rattle.bit_pattern.proofs.DigitLaws.{length-digits_below}
use Rattle.bit_pattern.proofs.pattern.Pattern.followed_by.Goals as goal

count : (p q : Pattern) → length (digits_of p ++ digits_of q) ≡ p.width + q.width
count p q = omega (arith, length-append (digits_of p) (digits_of q), length-digits_below p.mask p.value p.width, length-digits_below q.mask q.value q.width)

pub returns-then-self-lower : goal.returns-then-self-lower
returns-then-self-lower c =
    let n = count c.args.self.now c.args.lower.now in
    let many : nat_le (length (digits_of c.args.self.now ++ digits_of c.args.lower.now)) 128 ≡ false = grind (arith, nat_tests) in
    ap (λ b. cond b (Some (digits_of c.args.self.now ++ digits_of c.args.lower.now)) None) (sym many)

pub returns : goal.returns
returns c =
    let n = count c.args.self.now c.args.lower.now in
    let few : nat_le (length (digits_of c.args.self.now ++ digits_of c.args.lower.now)) 128 ≡ true = grind (arith, nat_tests) in
    ap Some c.in_front_of.ensures ∙ ap (λ b. cond b (Some (digits_of c.args.self.now ++ digits_of c.args.lower.now)) None) (sym few)
