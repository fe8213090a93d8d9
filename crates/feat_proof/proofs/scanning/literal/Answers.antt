use Rattle.std.proofs.Common.{arith}
use Rattle.spec_refutation.proofs.Signs.{no_minus_literal}
use Rattle.feat_proof.proofs.scanning.literal.Goals as goal

pub returns-in_err-variable-in-Some-clause-none : goal.returns-in_err-variable-in-Some-clause-none
returns-in_err-variable-in-Some-clause-none c =
    rw c.from_residual.ensures (no_minus_literal c.args.vars c.requires c.args.text.now c.in-Some.size.now c.in-Some.ensures.found
    (λ n rest low high. c.in_err-variable-in-Some.ensures.none n rest (omega arith) (omega (arith, c.from.ensures))))
