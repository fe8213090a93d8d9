use Rattle.std.proofs.Common.{◌∙◌, ap, subst, arith, length, map, take, drop}
use Rattle.spec_expressions.specs.Scope.{Flag}
use Rattle.feat_solve.specs.Answers.{Solves}
use Rattle.feat_model.proofs.Outcomes.{first_reaches, first_chosen, first_fits, none_fits, refutation_written}
use Rattle.feat_model.proofs.configuring.configured.Goals as goal

pub configuration-requires : goal.configuration-requires
configuration-requires c =
    let first = subst (Solves c.in_ok-cnf.cnf.0 c.in_ok-cnf.cnf.1) c.in-Model.is c.in_ok-states.ensures.solves in
    let reaches = first_reaches c.args.model.now c.args.pins.now c.in_ok-cnf.cnf c.in-Model.states.items c.in_ok-cnf.ensures.cnf first in
    omega (arith, reaches, ap length c.deref.ensures.value)

pub returns-in_ok-config-in-Model-clause-outcome : goal.returns-in_ok-config-in-Model-clause-outcome
returns-in_ok-config-in-Model-clause-outcome c =
    let first = subst (Solves c.in_ok-cnf.cnf.0 c.in_ok-cnf.cnf.1) c.in-Model.is c.in_ok-states.ensures.solves in
    let t = c.args.model.now in
    first_chosen t c.args.pins.now c.in_ok-cnf.cnf c.in-Model.states.items c.in_ok-config-in-Model.config c.cnf.ensures.formed c.in_ok-cnf.ensures.cnf first
    c.in_ok-config-in-Model.ensures.names
    (c.in_ok-config-in-Model.ensures.states ∙ ap (λ all. map Flag (take (length t.names) all)) c.deref.ensures.value)
    (c.in_ok-config-in-Model.ensures.atoms ∙ ap (λ all. take t.atoms (drop (length t.names) all)) c.deref.ensures.value)

pub returns-in_ok-config-in-Model-clause-exact : goal.returns-in_ok-config-in-Model-clause-exact
returns-in_ok-config-in-Model-clause-exact c =
    let first = subst (Solves c.in_ok-cnf.cnf.0 c.in_ok-cnf.cnf.1) c.in-Model.is c.in_ok-states.ensures.solves in
    let t = c.args.model.now in
    let chosen = first_chosen t c.args.pins.now c.in_ok-cnf.cnf c.in-Model.states.items c.in_ok-config-in-Model.config c.cnf.ensures.formed c.in_ok-cnf.ensures.cnf first
    c.in_ok-config-in-Model.ensures.names
    (c.in_ok-config-in-Model.ensures.states ∙ ap (λ all. map Flag (take (length t.names) all)) c.deref.ensures.value)
    (c.in_ok-config-in-Model.ensures.atoms ∙ ap (λ all. take t.atoms (drop (length t.names) all)) c.deref.ensures.value) in
    (λ h. absurd h, λ none. first_fits t c.args.pins.now c.in_ok-config-in-Model.config chosen none)

pub returns-in-Refuted-clause-outcome : goal.returns-in-Refuted-clause-outcome
returns-in-Refuted-clause-outcome c =
    let refutation = subst (Solves c.in_ok-cnf.cnf.0 c.in_ok-cnf.cnf.1) c.in-Refuted.is c.in_ok-states.ensures.solves in
    (c.in_ok-cnf.ensures.cnf, refutation.refutes, refutation_written c.in_ok-cnf.cnf c.in-Refuted.log c.in_ok-cnf.ensures.few.0 c.in_ok-cnf.ensures.within refutation)

pub returns-in-Refuted-clause-exact : goal.returns-in-Refuted-clause-exact
returns-in-Refuted-clause-exact c =
    let refutation = subst (Solves c.in_ok-cnf.cnf.0 c.in_ok-cnf.cnf.1) c.in-Refuted.is c.in_ok-states.ensures.solves in
    (λ h g fits. none_fits c.args.model.now c.args.pins.now c.in_ok-cnf.cnf c.in-Refuted.log g c.cnf.ensures.formed c.in_ok-cnf.ensures.cnf refutation fits, λ none. tt)
