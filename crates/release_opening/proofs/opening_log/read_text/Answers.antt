use Rattle.std.proofs.Common.{Ok, sym, ap, ◌∙◌}
use Rattle.spec_run.proofs.Logs.{log_is_opened, fault_is_told}
use Rattle.release_opening.proofs.opening_log.read_text.Goals as goal

pub returns-in-Ok : goal.returns-in-Ok
returns-in-Ok c =
    let o = c.new.result in
    log_is_opened c.args.bytes.now _ _ _ c.in-Ok.ensures.log
    ∙ ap (λ cs. Ok (record { clauses = cs; steps = c.in-Ok.log })) (sym c.new.ensures.clauses)
    ∙ ap (λ ss. Ok (record { clauses = o.clauses; steps = ss })) (sym c.new.ensures.steps)

pub returns-in-Err-Syntax : goal.returns-in-Err-Syntax
returns-in-Err-Syntax c = fault_is_told _ c.in-Err-Syntax.at (c.in-Err-Syntax.ensures.syntax c.in-Err-Syntax.at c.in-Err-Syntax.field-0-is)
