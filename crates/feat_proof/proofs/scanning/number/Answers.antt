use Rattle.std.proofs.Common.{arith}
use Rattle.spec_refutation.proofs.Numbers.{no_number}
use Rattle.feat_proof.proofs.Digits.{first_digit, zero_ends, zero_goes_on, next_digit, no_room}
use Rattle.feat_proof.proofs.scanning.number.Goals as goal

pub returns-in_err-first-clause-none : goal.returns-in_err-first-clause-none
returns-in_err-first-clause-none c = rw c.from_residual.ensures (λ n rest low high s. no_number n c.args.text.now rest (omega arith) c.in_err-first.ensures.none)

pub returns-in-None-clause-found : goal.returns-in-None-clause-found
returns-in-None-clause-found c =
    let f = c.in_ok-first.ensures.found in
    (zero_ends c.in_ok-first.first c.args.text.now c.in_ok-first.rest.now c.if-first-eq0.true f.0 f.1, c.in-None.ensures.none)

pub returns-in-Some-clause-none : goal.returns-in-Some-clause-none
returns-in-Some-clause-none c n rest low high s =
    let f = c.in_ok-first.ensures.found in
    let g = c.in-Some.ensures.found in
    zero_goes_on c.in_ok-first.first n _ c.args.text.now rest _ c.in_ok-first.rest.now c.if-first-eq0.true f.1 g.0 g.1 (omega arith) s

pub digits-init : goal.digits-init
digits-init c =
    let f = c.in_ok-first.ensures.found in
    record {
      some = omega (arith, c.if-first-eq0.false);
      fits = omega (arith, f.0);
      read = first_digit c.in_ok-first.first c.args.text.now c.in_ok-first.rest.now f.0 f.1;
    }

pub returns-in_err-number-clause-none : goal.returns-in_err-number-clause-none
returns-in_err-number-clause-none c = rw c.from_residual-in_err-number.ensures (λ n rest low high s.
    let f = c.in-Some-digit.ensures.found in
    no_room c.digits.number c.in-Some-digit.next n c.args.text.now c.digits.rest.now c.in-Some-digit.after.now rest c.digits.invariant.fits f.0 c.in_err-number.ensures c.digits.invariant.read f.1 (omega arith) s)

pub digits-preserved : goal.digits-preserved
digits-preserved c =
    let f = c.in-Some-digit.ensures.found in
    let n = c.in_ok-number.ensures in
    let p = next_digit c.digits.number c.in-Some-digit.next c.in_ok-number.number c.args.text.now c.digits.rest.now c.in-Some-digit.after.now c.digits.invariant.some f.0 (omega (arith, n.0, n.1)) n.1 c.digits.invariant.read f.1 in
    record { some = p.0; fits = omega (arith, n.0, n.1); read = p.1 }
