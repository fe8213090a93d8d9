use Rattle.spec_refutation.proofs.LineEnds.{step_unspaced, step_uncoloned, step_unended}
use Rattle.feat_proof.proofs.lines.step_line.Goals as goal

pub returns-in_default-after-clause-none : goal.returns-in_default-after-clause-none
returns-in_default-after-clause-none c =
    let l = c.in_ok-clause in
    step_unspaced c.args.vars c.requires c.args.text.now c.in-Some.rest.now l.clause l.rest.now l.ensures c.args.lines c.in-Some.ensures.found c.in_default-after.ensures.none

pub returns-in_default-after-2-clause-none : goal.returns-in_default-after-2-clause-none
returns-in_default-after-2-clause-none c =
    let l = c.in_ok-clause in
    step_uncoloned c.args.vars c.requires c.args.text.now c.in-Some.rest.now l.clause l.rest.now l.ensures c.args.lines c.in-Some.ensures.found
    c.in-Some-after.rest.now c.in-Some-after.ensures.found c.in_default-after-2.ensures.none

pub returns-in_default-after-3-clause-none : goal.returns-in_default-after-3-clause-none
returns-in_default-after-3-clause-none c =
    let l = c.in_ok-clause in
    let h = c.in_ok-hints in
    step_unended c.args.vars c.requires c.args.text.now c.in-Some.rest.now l.clause l.rest.now l.ensures c.args.lines c.in-Some.ensures.found
    c.in-Some-after.rest.now c.in-Some-after-2.rest.now h.hints.items h.rest.now c.ranges.lines.fits c.in-Some-after.ensures.found c.in-Some-after-2.ensures.found h.ensures c.in_default-after-3.ensures.none
