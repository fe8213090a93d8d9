use Rattle.std.proofs.Common.{⊎_elim, arith}
use Rattle.spec_refutation.proofs.Signs.{outside}
use Rattle.feat_proof.proofs.scanning.number_within.Goals as goal

pub returns-then-number-least-clause-none : goal.returns-then-number-least-clause-none
returns-then-number-least-clause-none c =
    let n = c.in_ok-number in
    outside c.args.least c.args.most n.number c.args.text.now n.rest.now n.ensures.fits c.ranges.most.fits n.ensures.found.1 n.ensures.found.0
    (λ low high. ⊎_elim (λ h. omega arith) (λ h. omega arith) c.then-number-least.either)
