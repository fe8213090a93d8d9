use Rattle.spec_refutation.proofs.Stopped.{stopped}
use Rattle.feat_proof.proofs.reading.parsed.Goals as goal

pub returns-clause-syntax : goal.returns-clause-syntax
returns-clause-syntax c at e =
    let k = c.in-Some in
    let l = c.in_ok-cnf in
    stopped k.counts.vars k.counts.clauses k.counts.steps k.rest.now l.cnf.1 l.log l.rest.now l.ensures.ends c.args.text.now at k.ensures.counts k.ensures.found
    c.if-is_whole.ensures.part
    cc
