use Rattle.std.proofs.lemmas.Result.{err_from_is_err_and}
use Rattle.asm_stream.proofs.PieceLaws.{ended_reaches, ended_stops}
use Rattle.asm_stream.proofs.assembly.end_line.Goals as goal

pub returns-in_err-push_left-clause-ends : goal.returns-in_err-push_left-clause-ends
returns-in_err-push_left-clause-ends c =
    let p = err_from_is_err_and c.from_residual.result c.from_residual.ensures.1 in
    rw (p.1, p.2) (ended_stops c.args.lister.now c.args.assembly.now c.push_left.new.assembly c.args.line.now c.in_err-push_left.field-0.0 c.requires.end c.in_err-push_left.ensures.gives)

pub returns-clause-ends : goal.returns-clause-ends
returns-clause-ends c = λ done before so_far.
    let h = c.in_ok-push_left.ensures.gives in
    ended_reaches _ done before _ _ c.args.line.now h.0 _ _ _ _ c.requires.end c.in_ok-push_left.ensures.number c.in_ok-push_left.ensures.left h.2 so_far h.1
