use Rattle.spec_refutation.proofs.Header.{no_clauses_count, no_steps_count, no_first_end, too_many_lines}
use Rattle.feat_proof.proofs.counts.first_line.Goals as goal

pub returns-in_err-clauses-clause-none : goal.returns-in_err-clauses-clause-none
returns-in_err-clauses-clause-none c =
    let v = c.in_ok-vars in
    rw c.from_residual-in_err-clauses.ensures (no_clauses_count c.args.text.now c.in_ok-rest.rest.now c.in_ok-rest.ensures.found
    v.vars v.rest.now v.ensures.within.1 v.ensures.found.0 v.ensures.found.1 c.in_err-clauses.ensures.none)

pub returns-in_err-steps-clause-none : goal.returns-in_err-steps-clause-none
returns-in_err-steps-clause-none c =
    let v = c.in_ok-vars in
    let k = c.in_ok-clauses in
    rw c.from_residual-in_err-steps.ensures (no_steps_count c.args.text.now c.in_ok-rest.rest.now c.in_ok-rest.ensures.found
    v.vars v.rest.now v.ensures.within.1 v.ensures.found.0 v.ensures.found.1 k.clauses k.rest.now k.ensures.within.1 k.ensures.found.0 k.ensures.found.1 c.in_err-steps.ensures.none)

pub returns-in_err-rest-2-clause-none : goal.returns-in_err-rest-2-clause-none
returns-in_err-rest-2-clause-none c =
    let v = c.in_ok-vars in
    let k = c.in_ok-clauses in
    let s = c.in_ok-steps in
    rw c.from_residual-in_err-rest-2.ensures (no_first_end c.args.text.now c.in_ok-rest.rest.now c.in_ok-rest.ensures.found
    v.vars v.rest.now v.ensures.within.1 v.ensures.found.0 v.ensures.found.1 k.clauses k.rest.now k.ensures.within.1 k.ensures.found.0 k.ensures.found.1
    s.steps s.rest.now s.ensures.within.1 s.ensures.found.0 s.ensures.found.1 c.in_err-rest-2.ensures.none)

pub returns-in_err-lines-clause-none : goal.returns-in_err-lines-clause-none
returns-in_err-lines-clause-none c =
    let v = c.in_ok-vars in
    let k = c.in_ok-clauses in
    let s = c.in_ok-steps in
    rw c.from_residual-in_err-lines.ensures (too_many_lines c.args.text.now c.in_ok-rest.rest.now c.in_ok-rest.ensures.found
    v.vars v.rest.now v.ensures.within.1 v.ensures.found.0 v.ensures.found.1 k.clauses k.rest.now k.ensures.within.1 k.ensures.found.0 k.ensures.found.1
    s.steps s.rest.now s.ensures.within.1 s.ensures.found.0 s.ensures.found.1 c.in_err-lines.ensures)
