use Rattle.spec_refutation.proofs.LineEnds.{clause_unended}
use Rattle.feat_proof.proofs.lines.clause_line.Goals as goal

pub returns-in_default-after-clause-none : goal.returns-in_default-after-clause-none
returns-in_default-after-clause-none c =
    let l = c.in_ok-clause in
    clause_unended c.args.vars c.requires c.args.text.now c.in-Some.rest.now l.clause l.rest.now l.ensures c.in-Some.ensures.found c.in_default-after.ensures.none
