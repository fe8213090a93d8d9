use Rattle.std.proofs.lemmas.Result.{IfOk-weaker}
use Rattle.spec_refutation.proofs.Places.{one_log}
use Rattle.feat_proof.proofs.printing.print_log.Goals as goal

pub returns-clause-one : goal.returns-clause-one
returns-clause-one c =
    let cnf = c.args.cnf.now in
    IfOk-weaker c.printed.result _ _ (λ text e vars clauses steps other.
    one_log text.items vars cnf.0 clauses cnf.1 steps c.args.log.now other (record { bounds = c.requires; printed = e })) c.printed.ensures
