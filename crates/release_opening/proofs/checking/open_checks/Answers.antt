use Rattle.std.proofs.Common.{is_some}
use Rattle.std.proofs.lemmas.Result.{err_from_is_err_and}
use Rattle.release_opening.proofs.checking.open_checks.Goals as goal

pub returns-in_err-set-clause-named : goal.returns-in_err-set-clause-named
returns-in_err-set-clause-named g c =
    let p = err_from_is_err_and c.from_residual.result c.from_residual.ensures.1 in
    rw (p.1, p.2) (c.in_err-set.ensures.named (is_some c.args.asked.features))

pub returns-in_err-features-clause-named : goal.returns-in_err-features-clause-named
returns-in_err-features-clause-named g c =
    let p = err_from_is_err_and c.from_residual-in_err-features.result c.from_residual-in_err-features.ensures.1 in
    rw (p.1, p.2) (c.in_err-features.ensures.named (is_some c.args.asked.insns))
