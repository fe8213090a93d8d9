use Rattle.std.proofs.Common.{◌≡◌, length, subst}
use Rattle.std.specs.Prelude.{IfOk}
use Rattle.spec_run.specs.Logs.{Checked, log_line}
use Rattle.release_opening.specs.Verdict.{line_by}
use Rattle.release_opening.proofs.Verdicts.{answer_told}
use Rattle.release_opening.proofs.opened_log.OpenedLog.check.Goals as goal

pub returns : goal.returns
returns c =
    let told = answer_told (record { clauses = c.self.inside.cnf.1; steps = c.self.inside.log }) _ c.check.ensures.refuted c.check.ensures.fails in
    let P : Checked → Type 0 = λ log. IfOk c.check.result (λ verdict. line_by verdict (length log.steps) ≡ log_line log) in
    subst P c.self.view_is told
